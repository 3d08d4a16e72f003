-- How a seat that is alone settles, turn by turn, and when nothing more may go.
use Rattle.std.specs.Prelude.{ℕ, ◌≡◌, ◌≢◌, ◌⊎◌, ◌+◌, ◌*◌, ◌<◌, ◌≤◌, List, [], ◌∷◌, ◌++◌, length, sum_by, Option, Some, None}
use Rattle.protocol_pairs.specs.plain_state.declared.slot.Kind.TheVariants.{Disposal}
use Rattle.protocol_pairs.specs.plain_state.declared.slot.SlotId.{SlotId}
use Rattle.protocol_pairs.specs.plain_state.Lists.{times}
use Rattle.claim_law.specs.announce_slots.Seen.{announced_in}
use Rattle.claim_law.specs.core_events.declared.shape.Shape.{Shape}
use Rattle.claim_law.specs.core_events.Counts.{stage, sum_below}
use Rattle.claim_law.specs.core_events.Runs.{Core}
use Rattle.claim_law.specs.core_promises.Destroyed.{standing}
use Rattle.retiring_stores.specs.acquire_retire.Domains.{DomainState}
use Rattle.retiring_stores.specs.acquire_retire.Seats.{SeatState}
use Rattle.retiring_stores.specs.acquire_retire.Wholes.{known_core}
use Rattle.retiring_stores.specs.Scanning.{Collected}
use Rattle.slot_store.specs.Reaping.{Answers}

-- how many slots have an object that isn't destroyed
abbrev pub objects_in : Shape → Core → ℕ
objects_in z c = sum_below z.slots (λ x. standing (stage z c (record { 0 = x })))

-- so many of them a seat knows that is alone
abbrev pub objects_known : {P V : Type 0} → DomainState P → SeatState V → ℕ
objects_known d seat = objects_in d.shape (known_core seat.view)

-- what a reap answered weighs: nothing where it destroyed nothing
abbrev pub weight_of : Option ℕ → ℕ
weight_of None = 0
weight_of (Some weight) = weight

module _ {P V : Type 0} (fits : List ℕ → Type 0) (d : DomainState P) where
  -- The seat has collected, and there is more to do: an entry was ejected, or a slot is ripe.
  pub record GoesOn (old new : SeatState V) : Type 0 where
    pub collected : Collected fits d old new
    pub more :
        (length new.view.core.retired < length old.view.core.retired)
        ⊎ (new.view.core.ripe ≢ [])

  -- The seat has collected, and there is nothing more to do: no entry was ejected and no slot is
  -- ripe. Each slot that is dying is announced for disposal by one of the words that it read.
  pub record Quiets (old new : SeatState V) : Type 0 where
    pub collected : Collected fits d old new
    pub none_ejected : collected.work.ejected ≡ 0
    pub none_ripe : new.view.core.ripe ≡ []
    pub announced :
        (s : SlotId) → 0 < times s new.view.core.dying
        → 0 < announced_in (collected.collects.seen ++ collected.collects.last ∷ []) Disposal s

  module _ (weight : List ℕ → ℕ) where
    -- One turn, by what its reap answered: the seat has destroyed a slot of this weight, or it has
    -- destroyed none, and collected.
    abbrev pub Turn : Option ℕ → SeatState V → SeatState V → Type 0
    Turn (Some answer) old new = Answers fits d weight (Some answer) old new
    Turn None old new =
        (mid : SeatState V) × Answers fits d weight None old mid × GoesOn mid new

    -- turns one after another, the newest first
    abbrev pub Turns : List (Option ℕ) → SeatState V → SeatState V → Type 0
    Turns [] old new = new ≡ old
    Turns (answer ∷ answers) old new =
        (mid : SeatState V) × Turns answers old mid × Turn answer mid new

    -- The seat has reaped and collected by turns: `total` is the sum of the weights of all slots that
    -- it destroyed. Its last reap destroyed none, and after its last collect there was nothing more
    -- to do.
    pub record Settles (total : ℕ) (old new : SeatState V) : Type 0 where
      pub answers : List (Option ℕ)
      pub before : SeatState V
      pub reaped : SeatState V
      pub turns : Turns answers old before
      pub sum : total ≡ sum_by weight_of answers
      pub few :
          length answers ≤ 2 * (length old.view.core.retired + 4 * objects_known d old) + 1
      pub reaps_none : Answers fits d weight None before reaped
      pub quiets : Quiets reaped new
