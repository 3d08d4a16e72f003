-- A seat that leaves keeps Sound: seat 0 has what it had.
use Rattle.std.proofs.Common.{◌≢◌, ℕ, ◌<◌, true, [], ◌++◌, length, sym, subst, arith}
use Rattle.plain_state.specs.declared.slot.Kind.TheVariants.{Strong, Weak}
use Rattle.plain_state.specs.declared.slot.SlotId.{SlotId}
use Rattle.plain_state.specs.State.{Plain, PlainSeat, seat_at, slot_at, with_seat}
use Rattle.plain_state.specs.Steps.{Leaves}
use Rattle.plain_state.specs.Sound.{Sound}
use Rattle.plain_state.proofs.Kit.{times_none, times_append, entry_none, entry_append}
use Rattle.plain_state.proofs.Changes.{seat_change, second_seat_change}
use Rattle.plain_state.proofs.SlotLaw.{NoMore, numbers, slot_law, sound_by, no_more_here}

-- seat 0 with its lists and those of v, and v without
joint : PlainSeat → PlainSeat → PlainSeat
joint root v = record root {
  owned = root.owned ++ v.owned;
  weaks = root.weaks ++ v.weaks;
  deferred = root.deferred ++ v.deferred;
  dying = root.dying ++ v.dying;
}

bare : PlainSeat → PlainSeat
bare v = record v { owned = []; weaks = []; deferred = []; dying = []; left = true }

after : Plain → ℕ → Plain
after p j = with_seat (with_seat p 0 (joint (seat_at p 0) (seat_at p j))) j (bare (seat_at p j))

less : (p : Plain) (j : ℕ) (t : SlotId) → 0 < length p.seats → j < length p.seats → j ≢ 0
    → NoMore (numbers p t) (numbers (after p j) t)
unfolding joint bare after
less p j t h0 hj ne =
    let root = seat_at p 0 in
    let v = seat_at p j in
    let a = seat_change p 0 (joint root v) t h0 in
    let b = second_seat_change p 0 (joint root v) j (bare v) t hj ne in
    let o = times_append t root.owned v.owned in
    let u = times_append t root.weaks v.weaks in
    let d = times_append t root.dying v.dying in
    let e = entry_append Strong t root.deferred v.deferred in
    let f = entry_append Weak t root.deferred v.deferred in
    let none = times_none t in
    let strong_none = entry_none Strong t in
    let weak_none = entry_none Weak t in
    record {
      strong = omega arith;
      weak = omega arith;
      adds = omega arith;
      dying = omega arith;
      disposal = omega arith;
      strong_covered = λ k h. omega arith;
      weak_covered = λ k h. omega arith;
    }

after_sound : (p : Plain) (j : ℕ) → Sound p → 0 < length p.seats → j < length p.seats → j ≢ 0
    → Sound (after p j)
unfolding after
after_sound p j so h0 hj ne = sound_by (after p j)
    (λ t. no_more_here (numbers p t) _ (slot_at p t) (slot_law p so t) (less p j t h0 hj ne))
    so.payloads

pub leave_sound : (p q : Plain) (j : ℕ) → Sound p → 0 < length p.seats → j < length p.seats → j ≢ 0
    → Leaves p j q
    → Sound q
unfolding joint bare after
leave_sound p q j so h0 hj ne is = subst Sound (sym is) (after_sound p j so h0 hj ne)
