-- What a closure does that is called with a free seat, again and again or in a thread.
use Rattle.std.specs.Prelude.{ℕ, ◌≡◌, ◌<◌}
use Rattle.std.specs.Borrow.{MutBor}
use Rattle.std.specs.Fn.{Shared}
use Rattle.domain_audit.specs.acquire_retire.Domains.{DomainState}
use Rattle.domain_audit.specs.acquire_retire.Seats.{SeatState}
use Rattle.seat_life.specs.Free.{IsFree}

module _ {F P V X : Type 0}
    (calls : Shared F (MutBor (SeatState V) × (ℕ × Unit {0}))
    (X × (MutBor (SeatState V) × Unit {0})))
    (d : DomainState P) (limit : ℕ) (f : F) where
  -- it may be called with each seat of the domain that is free, and with each number below the limit, and leaves the
  -- seat free
  abbrev pub KeepsFree : Type 0
  KeepsFree =
      ((seat : MutBor (SeatState V)) (n : ℕ) → n < limit → IsFree d seat.now
      → calls.pre f (seat, (n, tt)))
      × ((seat : MutBor (SeatState V)) (n : ℕ) (x : X) (left : MutBor (SeatState V)) → n < limit
      → IsFree d seat.now → calls.post f (seat, (n, tt)) (x, (left, tt)) → IsFree d left.now)

module _ {F V X : Type 0}
    (calls : Shared F (MutBor (SeatState V) × (ℕ × Unit {0}))
    (X × (MutBor (SeatState V) × Unit {0})))
    (f : F) (n : ℕ) (s : SeatState V) where
  -- it may be called with this seat and this number
  abbrev pub MayServe : Type 0
  MayServe = (seat : MutBor (SeatState V)) → seat.now ≡ s → calls.pre f (seat, (n, tt))

  -- such a call answered x, and left the seat so
  pub record Serves (x : X) (left : SeatState V) : Type 0 where
    pub before : MutBor (SeatState V)
    pub is : before.now ≡ s
    pub after : MutBor (SeatState V)
    pub called : calls.post f (before, (n, tt)) (x, (after, tt))
    pub leaves : after.now ≡ left
