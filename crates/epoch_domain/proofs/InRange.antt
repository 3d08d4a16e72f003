-- What a seat names is there by what holds of the seat itself: the places that are open to it, and the word that its
-- act is on. A place that is there holds null or a slot that is there. And an act leaves what is kept of seats that
-- left.
use Rattle.std.proofs.Common.{◌≡◌, ⊎_elim, ℕ, ◌-◌, ◌<◌, ◌≤◌, Bool, true, false, refl, ap, sym, ◌∙◌, subst, arith}
use Rattle.std.specs.Prelude.{◌==◌, slice_index, Option, Some, None, if◌then◌else◌}
use Rattle.std.proofs.lemmas.Bool.{cases_lt}
use Rattle.core_law.proofs.Kit.{one_same, in_word_same}
use Rattle.epoch_rule.specs.plain_protocol.plain_state.declared.act.EventPlace.{EventPlace}
use Rattle.epoch_rule.specs.plain_protocol.plain_state.declared.act.EventPlace.TheVariants.{Cell, Field, WeakCell, WeakField}
use Rattle.epoch_rule.specs.plain_protocol.plain_state.declared.slot.SlotId.{SlotId}
use Rattle.epoch_rule.specs.plain_protocol.plain_state.Lists.{times}
use Rattle.epoch_rule.specs.plain_protocol.plain_state.Steps.{word_of}
use Rattle.epoch_rule.specs.epoch_core.core_events.Views.{of_slot}
use Rattle.epoch_rule.specs.epoch_core.core_events.Words.{slot_in}
use Rattle.epoch_rule.specs.epoch_core.declared.act.EpochAct.{EpochAct}
use Rattle.epoch_rule.specs.epoch_core.declared.act.EpochAct.TheVariants as act
use Rattle.epoch_rule.specs.epoch_core.declared.shape.EpochShape.{EpochShape}
use Rattle.epoch_rule.specs.epoch_core.declared.view.EpochPhase.{EpochPhase}
use Rattle.epoch_rule.specs.epoch_core.declared.view.EpochPhase.TheVariants as phase
use Rattle.epoch_rule.specs.epoch_core.declared.view.EpochView.{EpochView}
use Rattle.epoch_rule.specs.epoch_core.Counts.{filling, naming}
use Rattle.epoch_rule.specs.epoch_core.Runs.{Core}
use Rattle.epoch_rule.specs.epoch_core.Sound.{SeatLaw, Sound}
use Rattle.epoch_rule.specs.epoch_core.Steps.{May, changed, gave, place, saw, scanned, scanned_at, took}
use Rattle.epoch_rule.specs.epoch_core.Views.{Holds, IsOpen, slot_of}
use Rattle.epoch_rule.specs.epoch_core.Words.{count_at, payload_at, place_at, word_count}
use Rattle.epoch_core.proofs.Held.{named_in_range}
use Rattle.epoch_core.proofs.Kit.{pending_some}
use Rattle.epoch_core.proofs.Writes.{IsPlace, place_bound, places_at}

module _ (z : EpochShape) (n : ℕ) (v : EpochView) (law : SeatLaw z n v) where
  named : (s : SlotId) → 0 < naming s v → s.0 < z.slots
  named s h = named_in_range z n v s law h

  held : (s : SlotId) → Holds v s → s.0 < z.slots
  held s h = named s (omega (arith, h))

  -- a place that is open to the seat is there
  pub open_in_range : (q : EventPlace) → IsOpen z v q → IsPlace z q
  open_in_range (Cell i) h = h
  open_in_range (Field s i) h = (held s h.1, h.0)
  open_in_range (WeakCell i) h = h
  open_in_range (WeakField s) h = h

  -- a field of a slot that the seat has ended is there
  pub ended_in_range : (s : SlotId) (i : ℕ) → i < 2 → 0 < times s v.dying → IsPlace z (Field s i)
  ended_in_range s i two die = (named s (omega (arith, die)), two)

  -- the slot that the seat fills is there
  pub filled_there : (s : SlotId) → v.phase ≡ phase.Blank s → s.0 < z.slots
  filled_there s is =
      let one : filling s v.phase ≡ 1 = ap (filling s) is ∙ one_same s s refl in
      named s (omega (arith, one))

  at_phase : (f : SlotId → ℕ) (s : SlotId) → v.phase ≡ phase.Blank s
      → (s.0 < z.slots → f s < word_count z) → of_slot f (slot_of v.phase) < word_count z
  at_phase f s is below =
      subst (λ (p : EpochPhase). of_slot f (slot_of p) < word_count z) (sym is)
      (below (filled_there s is))

  -- the word that an act is on, where the seat may make the act
  pub place_in : n < z.seats → (a : EpochAct) → May z a v → place z a v < word_count z
  place_in hn (act.Claim s) may = let h = may.1 in omega (arith, h)
  place_in hn (act.Fill i x) may =
      at_phase (λ s. payload_at z s i) may.0.0 may.0.1 (λ h. let i16 = may.1 in omega (arith, h, i16))
  place_in hn act.Start may = at_phase (count_at z) may.0 may.1 (λ h. omega (arith, h))
  place_in hn (act.See s i) may =
      let there : s.0 < z.slots = ⊎_elim (λ h. held s h) (λ die. named s (omega (arith, die))) may.1 in
      let i16 = may.2 in omega (arith, there, i16)
  place_in hn (act.Add s) may = let h = held s may.2 in omega (arith, h)
  place_in hn (act.Drop s) may =
      let p = may.1 in let h = named s (omega (arith, p)) in omega (arith, h)
  place_in hn (act.Pay d) may =
      let p = pending_some d.slot d v.pending may.1 in
      let one = one_same d.slot d.slot refl in
      let h = named d.slot (omega (arith, p, one)) in omega (arith, h)
  place_in hn (act.Free s) may =
      let p = may.1 in let h = named s (omega (arith, p)) in omega (arith, h)
  place_in hn (act.Look q) may = place_bound z q (open_in_range q may.2)
  place_in hn (act.Swap q new) may = place_bound z q (open_in_range q may.1)
  place_in hn (act.Cas q old new) may = place_bound z q (open_in_range q may.1)
  place_in hn (act.Clear s i) may =
      let p = may.2 in let h = named s (omega (arith, p)) in
      let two = may.1 in omega (arith, h, two)
  place_in hn act.Date may = omega arith
  place_in hn act.Enter may = omega arith
  place_in hn act.Open may = let e = law.number in omega (arith, hn, e)
  place_in hn act.Exit may = let e = law.number in omega (arith, hn, e)
  place_in hn act.Flush may = omega arith
  place_in hn act.Scan may =
      subst (λ (p : EpochPhase). scanned_at p < word_count z) (sym may.1)
      (let h = may.2 in omega (arith, h))
  place_in hn act.Advance may = omega arith
  place_in hn (act.Leave j) may = omega arith

-- a place that is there holds null or a slot that is there
pub content_in : (z : EpochShape) (c : Core) → Sound z c → (q : EventPlace) → IsPlace z q
    → slice_index c.words (place_at z q) ≤ z.slots
content_in z c so q there = ⊎_elim
    (λ (past : z.slots < slice_index c.words (place_at z q)).
    let s : SlotId = record { 0 = slice_index c.words (place_at z q) - 1 } in
    let none = so.range s (omega (arith, past)) in
    let at = places_at z c.words q s there in
    let one = in_word_same s (slice_index c.words (place_at z q)) (omega (arith, past)) in
    absurd (omega (arith, none, at, one)))
    (λ le. le)
    (cases_lt z.slots (slice_index c.words (place_at z q)))

-- WHAT IS KEPT OF SEATS THAT LEFT
module _ (v : EpochView) where
  abbrev Keeps : EpochView → Type 0
  Keeps u = u.left_seats ≡ v.left_seats

  pick : (b : Bool) (x y : EpochView) → Keeps x → Keeps y → Keeps (if b then x else y)
  pick true x y left right = left
  pick false x y left right = right

  gave_keeps : (new : Option SlotId) → Keeps (gave new v)
  gave_keeps None = refl
  gave_keeps (Some s) = refl

  took_keeps : (o : Option SlotId) (u : EpochView) → Keeps u → Keeps (took o u)
  took_keeps None u k = k
  took_keeps (Some s) u k = k

  saw_keeps : (o : Option SlotId) → Keeps (saw o v)
  saw_keeps None = refl
  saw_keeps (Some s) = refl

  scan_keeps : (z : EpochShape) (w : ℕ) (p : EpochPhase) → Keeps (scanned z w p v)
  scan_keeps z w phase.Idle = refl
  scan_keeps z w (phase.Entering e) = refl
  scan_keeps z w (phase.Undated s) = refl
  scan_keeps z w (phase.Blank s) = refl
  scan_keeps z w (phase.Scan x) = pick _ _ _ refl refl

  pub left_same : (z : EpochShape) (a : EpochAct) (w : ℕ)
      → (changed z a w v).left_seats ≡ v.left_seats
  left_same z (act.Claim s) w = pick _ _ _ refl refl
  left_same z (act.Fill i x) w = refl
  left_same z act.Start w = refl
  left_same z (act.See s i) w = refl
  left_same z (act.Add s) w = refl
  left_same z (act.Drop s) w = pick (w == 1) _ _ refl refl
  left_same z (act.Pay d) w = pick (w == 1) _ _ refl refl
  left_same z (act.Free s) w = refl
  left_same z (act.Look p) w = saw_keeps (slot_in w)
  left_same z (act.Swap p new) w = took_keeps (slot_in w) (gave new v) (gave_keeps new)
  left_same z (act.Cas p old new) w =
      pick (w == word_of old) _ _ (took_keeps (slot_in w) (gave new v) (gave_keeps new)) refl
  left_same z (act.Clear s i) w = took_keeps (slot_in w) v refl
  left_same z act.Date w = refl
  left_same z act.Enter w = refl
  left_same z act.Open w = refl
  left_same z act.Exit w = refl
  left_same z act.Flush w = refl
  left_same z act.Scan w = scan_keeps z w v.phase
  left_same z act.Advance w = refl
  left_same z (act.Leave j) w = refl
