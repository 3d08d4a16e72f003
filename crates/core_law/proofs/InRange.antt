-- What a seat names is there by what holds of the seat itself: the places that are open to it, and
-- the word that its act is on. And a place that is there holds null or a slot that is there.
use Rattle.std.proofs.Common.{◌≡◌, ◌⊎◌, ⊎_elim, ℕ, ◌-◌, ◌<◌, ◌≤◌, List, [], ◌∷◌, refl, ap, sym, subst, arith}
use Rattle.std.specs.Prelude.{slice_index, Option, Some}
use Rattle.std.proofs.lemmas.Bool.{cases_lt}
use Rattle.core_events.specs.plain_state.declared.act.EventPlace.{EventPlace}
use Rattle.core_events.specs.plain_state.declared.act.EventPlace.TheVariants.{Cell, Field, WeakCell, WeakField}
use Rattle.core_events.specs.plain_state.declared.slot.Kind.{Kind}
use Rattle.core_events.specs.plain_state.declared.slot.SlotId.{SlotId}
use Rattle.core_events.specs.plain_state.Lists.{Entry, times, entry_times}
use Rattle.core_events.specs.plain_state.Places.{place_kind}
use Rattle.core_events.specs.declared.act.Act.{Act}
use Rattle.core_events.specs.declared.act.Act.TheVariants as act
use Rattle.core_events.specs.declared.shape.Shape.{Shape}
use Rattle.core_events.specs.declared.view.CoreView.{CoreView}
use Rattle.core_events.specs.declared.view.Note.{Note}
use Rattle.core_events.specs.declared.view.Phase.{Phase}
use Rattle.core_events.specs.Words.{bits_at, note_at, strong_at, weak_at, payload_at, place_at, word_count}
use Rattle.core_events.specs.Views.{Holds, HoldsStrongly, CanReadFields, IsReadable, IsRipeField, IsOpen, slot_of, slot_noted, of_slot}
use Rattle.core_events.specs.Steps.{May, place, owed_at, counter_at}
use Rattle.core_events.specs.Runs.{Core}
use Rattle.core_events.specs.Counts.{naming, in_phase}
use Rattle.core_events.specs.Good.{SeatLaw}
use Rattle.core_law.specs.Sound.{Sound}
use Rattle.core_law.proofs.Kit.{one_same, in_word_same, entry_cons}
use Rattle.core_law.proofs.Held.{held_named}
use Rattle.core_law.proofs.Writes.{IsPlace, place_bound, places_at}
use Rattle.core_law.proofs.Steady.{named_in_range}
use Rattle.core_law.proofs.Bits.{bits_bound}

-- a phase that has a slot names it
names_slot : (p : Phase) (s : SlotId) → slot_of p ≡ Some s → in_phase s p ≡ 1
names_slot p s is = grind (arith, one_same)

module _ (z : Shape) (n : ℕ) (v : CoreView) (law : SeatLaw z n v) where
  named : (s : SlotId) → 0 < naming s v → s.0 < z.slots
  named s h = named_in_range z n v s law h

  held : (s : SlotId) → Holds v s → s.0 < z.slots
  held s h = named s (held_named s v h)

  strongly_held : (s : SlotId) → HoldsStrongly v s → s.0 < z.slots
  strongly_held s h = held s (omega arith)

  -- a place that is open to the seat is there, one that it may read, and a field of a slot that it may destroy
  pub open_in_range : (q : EventPlace) → IsOpen z v q → IsPlace z q
  open_in_range (Cell i) h = h
  open_in_range (Field s i) h = (strongly_held s h.1, h.0)
  open_in_range (WeakCell i) h = h
  open_in_range (WeakField s) h = strongly_held s h

  reads_fields : (s : SlotId) → CanReadFields v s → s.0 < z.slots
  reads_fields s h = held s (omega arith)

  pub readable_in_range : (q : EventPlace) → IsReadable z v q → IsPlace z q
  readable_in_range (Cell i) h = h
  readable_in_range (Field s i) h = (reads_fields s h.1, h.0)
  readable_in_range (WeakCell i) h = h
  readable_in_range (WeakField s) h = reads_fields s h

  pub ripe_in_range : (q : EventPlace) → IsRipeField v q → IsPlace z q
  ripe_in_range (Cell i) h = absurd h
  ripe_in_range (Field s i) h = let d = h.1 in (named s (omega arith), h.0)
  ripe_in_range (WeakCell i) h = absurd h
  ripe_in_range (WeakField s) h = named s (omega arith)

  pub put_in_range : (q : EventPlace) (new : Option SlotId) → May z (act.Swap q new) v → IsPlace z q
  put_in_range q new may =
      ⊎_elim (λ o. open_in_range q o.0) (λ d. ripe_in_range q d.0) may.2

  -- the slot of the phase is there
  pub phase_there : (s : SlotId) → slot_of v.phase ≡ Some s → s.0 < z.slots
  phase_there s is = let one = names_slot v.phase s is in named s (omega arith)

  -- and so is a word that it has
  at_phase : (f : SlotId → ℕ) (s : SlotId) → slot_of v.phase ≡ Some s
      → (s.0 < z.slots → f s < word_count z) → of_slot f (slot_of v.phase) < word_count z
  at_phase f s is below = subst (λ (o : Option SlotId). of_slot f o < word_count z) (sym is)
      (below (phase_there s is))

  pub owed_named : (k : Kind) (s : SlotId) (es : List Entry) → v.owed ≡ (k, s) ∷ es → 0 < naming s v
  owed_named k s es e =
      let a = ap (entry_times k s) e in
      let b = entry_cons k s (k, s) es in
      let o = one_same s s refl in grind arith

  counter_there : (k : Kind) (s : SlotId) → s.0 < z.slots → counter_at z k s < word_count z
  counter_there k s h = grind arith

  owed_there : (es : List Entry) → v.owed ≡ es → owed_at z es < word_count z
  owed_there [] e = omega arith
  owed_there (x ∷ es) e = counter_there x.0 x.1 (named x.1 (owed_named x.0 x.1 es e))

  note_there : n < z.seats → (j : ℕ) → j < 4 → note_at v.seat j < word_count z
  note_there hn j h = let number = law.number in omega arith

  seen_there : (s : SlotId) (i : ℕ) → i < 16 → (Holds v s ⊎ (0 < times s v.dying))
      → payload_at z s i < word_count z
  seen_there s i h has =
      let there : s.0 < z.slots = ⊎_elim (λ hold. held s hold) (λ die. named s (omega arith)) has in
      omega arith

  -- the word that an act is on, where the seat may make the act
  pub place_in : n < z.seats → (a : Act) → May z a v → place z a v < word_count z
  place_in hn (act.Add s) may = let h = held s may.2 in omega arith
  place_in hn (act.Drop s) may = let p = may.1 in let h = named s (omega arith) in omega arith
  place_in hn act.Pay may = owed_there v.owed refl
  place_in hn act.Finish may = at_phase (strong_at z) may.0 (ap slot_of may.1) (λ h. omega arith)
  place_in hn act.Take may = at_phase (strong_at z) may.0 (ap slot_of may.1) (λ h. omega arith)
  place_in hn (act.Count s) may = let h = held s may.1 in omega arith
  place_in hn act.Mark may = at_phase (strong_at z) may.0 (ap slot_of may.1) (λ h. omega arith)
  place_in hn (act.Announce j k s) may = note_there hn j may.1
  place_in hn (act.Release j) may = note_there hn j may.1
  place_in hn (act.Look q) may = place_bound z q (readable_in_range q may.1)
  place_in hn (act.Check j q) may = place_bound z q (readable_in_range q may.3)
  place_in hn (act.Alive j) may =
      let P : Note → Type 0 = λ x. of_slot (strong_at z) (slot_noted x) < word_count z in
      let h = held may.2.0 may.2.2 in subst P (sym may.2.1) (omega arith)
  place_in hn act.Scan may = let r = law.reads in omega arith
  place_in hn (act.Swap q new) may = place_bound z q (put_in_range q new may)
  place_in hn (act.Cas q old new) may = place_bound z q (open_in_range q may.2)
  place_in hn (act.Claim s) may = let h = may.1 in let b = bits_bound z s h in omega arith
  place_in hn act.Arm may = at_phase (weak_at z) may.0 (ap slot_of may.1) (λ h. omega arith)
  place_in hn (act.Fill i x) may =
      at_phase (λ s. payload_at z s i) may.0.0 (ap slot_of may.0.1)
      (λ h. let i16 = may.1 in omega arith)
  place_in hn act.Start may = at_phase (strong_at z) may.0 (ap slot_of may.1) (λ h. omega arith)
  place_in hn (act.See s i) may = seen_there s i may.2 may.1
  place_in hn act.Free may =
      at_phase (bits_at z) may.0 (ap slot_of may.1)
      (λ h. let b = bits_bound z may.0 h in omega arith)
  place_in hn act.Ticket may = omega arith
  place_in hn (act.Wadd s) may = let h = held s may.2 in omega arith
  place_in hn (act.Wdrop s) may = let p = may.1 in let h = named s (omega arith) in omega arith
  place_in hn (act.Destroy s) may = let p = may.1 in let h = named s (omega arith) in omega arith
  place_in hn (act.Wcount s) may = let h = held s may.1 in omega arith
  place_in hn (act.Leave j) may = omega arith

-- a place that is there holds null or a slot that is there
pub content_in : (z : Shape) (c : Core) → Sound z c → (q : EventPlace) → IsPlace z q
    → slice_index c.words (place_at z q) ≤ z.slots
content_in z c so q there = ⊎_elim
    (λ (past : z.slots < slice_index c.words (place_at z q)).
    let s : SlotId = record { 0 = slice_index c.words (place_at z q) - 1 } in
    let none = so.range (place_kind q) s (omega arith) in
    let at = places_at z c.words q s there in
    let one = in_word_same s (slice_index c.words (place_at z q)) (omega arith) in
    absurd (omega arith))
    (λ le. le)
    (cases_lt z.slots (slice_index c.words (place_at z q)))
