-- Chains of plain steps of a seat that is known, and what a seat that is shown holds.
use Rattle.std.proofs.Common.{◌≡◌, ℕ, ◌+◌, ◌<◌, false, List, [], ◌∷◌, length, get_or, set, refl, ap, ◌∙◌, arith}
use Rattle.std.proofs.lemmas.List.{length-map, set-set}
use Rattle.std.proofs.lemmas.List.Sums.{sum_by-set}
use Rattle.core_law.specs.plain_state.declared.act.PlainAct.{PlainAct}
use Rattle.core_law.specs.plain_state.declared.slot.PlainSlot.{PlainSlot}
use Rattle.core_law.specs.plain_state.declared.slot.SlotId.{SlotId}
use Rattle.core_law.specs.plain_state.declared.slot.Stage.TheVariants.{Live}
use Rattle.core_law.specs.plain_state.Places.{Holds as HoldsPlain, HoldsStrongly}
use Rattle.core_law.specs.plain_state.State.{Plain, PlainSeat, new_seat, seat_at, slot_at, with_seat}
use Rattle.core_law.specs.plain_state.References.{over_seats}
use Rattle.core_law.specs.plain_state.Steps.{IsSeat, Row}
use Rattle.epoch_core.specs.declared.shape.EpochShape.{EpochShape}
use Rattle.epoch_core.specs.declared.view.EpochView.{EpochView}
use Rattle.epoch_core.specs.Views.{Holds}
use Rattle.epoch_core.specs.Runs.{Core, view_at}
use Rattle.epoch_core.specs.Good.{stage}
use Rattle.epoch_core.specs.Shows.{shows, show_seat, is_marked}
use Rattle.epoch_core.specs.ShownSteps.{Chain, step}
use Rattle.epoch_core.specs.Sound.{Sound}
use Rattle.epoch_core.proofs.Bridge.{seen_entries, shown_seat, shown_slot}
use Rattle.epoch_core.proofs.Held.{held_refs, named_in_range}
use Rattle.epoch_core.proofs.Parts.{by}
use Rattle.epoch_core.proofs.Put.{at_seat}

-- a chain of one step
pub one_step : (n : ℕ) (p q : Plain) (a : PlainAct) → IsSeat p n → Row p n a 0 q → Chain n p (step a ∷ []) q
one_step n p q a seat row = (q, (seat, row), refl)

-- and of two
pub two_steps : (n : ℕ) (p m q : Plain) (a b : PlainAct) → IsSeat p n → Row p n a 0 m → IsSeat m n
    → Row m n b 0 q → Chain n p (step a ∷ step b ∷ []) q
two_steps n p m q a b seat row seat' row' = (m, (seat, row), (q, (seat', row'), refl))

-- how a sum over seats moves where one seat is given anew
pub seats_set : (f : PlainSeat → ℕ) (vs : List PlainSeat) (n : ℕ) (y : PlainSeat) → n < length vs
    → over_seats f (set vs n y) + f (get_or vs n new_seat) ≡ over_seats f vs + f y
unfolding over_seats
seats_set f vs n y h = sum_by-set f vs n y new_seat h

-- what is held strongly, by a seat as it is shown
pub holds_strongly : (v : EpochView) (s : SlotId) → Holds v s → HoldsStrongly (show_seat v) s
holds_strongly v s h = let e = seen_entries s v.seen in omega arith

pub holds_shown : (v : EpochView) (s : SlotId) → Holds v s → HoldsPlain (show_seat v) s
holds_shown v s h = let e = seen_entries s v.seen in omega arith

-- a seat that is given anew twice
pub twice : (p : Plain) (n : ℕ) (y t : PlainSeat) → with_seat (with_seat p n y) n t ≡ with_seat p n t
twice p n y t = ap (λ (vs : List PlainSeat). record p { seats = vs }) (set-set p.seats n y t)

module _ (z : EpochShape) (c : Core) (n : ℕ) (so : Sound z c) (hn : n < z.seats) where
  abbrev v : EpochView
  v = view_at c n

  pub is_shown : seat_at (shows z c) n ≡ show_seat (view_at c n)
  is_shown = shown_seat z c n (at_seat z c n so hn)

  pub seat_listed : n < length (shows z c).seats
  seat_listed = let l = length-map c.views show_seat in let h = at_seat z c n so hn in omega arith

  pub is_seat : (view_at c n).left ≡ false → IsSeat (shows z c) n
  is_seat here =
      let l = length-map c.views show_seat in
      let h = at_seat z c n so hn in
      (omega arith, ap (λ (y : PlainSeat). y.left) is_shown ∙ here)

  -- a slot that the seat holds is live, and has no mark
  pub held_there : (s : SlotId) → Holds v s → s.0 < z.slots
  held_there s h = named_in_range z n v s (so.seats n hn) (omega arith)

  pub held_live : (s : SlotId) → Holds v s → stage z c s ≡ Live
  held_live s h = (by z c so s (held_there s h)).live (held_refs z c n s so hn h)

  pub held_unmarked : (s : SlotId) → Holds v s → (slot_at (shows z c) s).marked ≡ false
  held_unmarked s h =
      ap (λ (x : PlainSlot). x.marked) (shown_slot z c s (held_there s h))
      ∙ ap is_marked (held_live s h)
