-- What the core shows is lawful.
use Rattle.std.proofs.Common.{◌≡◌, ◌≢◌, ⊎_elim, ℕ, ◌+◌, ◌<◌, ◌≤◌, true, false, length, refl, ap, sym, ◌∙◌, arith}
use Rattle.std.specs.Prelude.{◌↔◌, slice_index, None}
use Rattle.std.proofs.lemmas.Bool.{cases_lt}
use Rattle.std.proofs.lemmas.List.Elements.{All-from_get_or}
use Rattle.core_law.specs.plain_state.declared.slot.Kind.TheVariants.{Strong, Weak, Disposal}
use Rattle.core_law.specs.plain_state.declared.slot.PlainSlot.{PlainSlot}
use Rattle.core_law.specs.plain_state.declared.slot.SlotId.{SlotId}
use Rattle.core_law.specs.plain_state.declared.slot.Stage.{Stage}
use Rattle.core_law.specs.plain_state.declared.slot.Stage.TheVariants.{Free, Blank, Live, Ended, Husk}
use Rattle.core_law.specs.plain_state.Lawful.{Lawful, IsCovered, IsVacant, HasNullFields}
use Rattle.core_law.specs.plain_state.Lists.{times}
use Rattle.core_law.specs.plain_state.References.{strong_refs, weak_refs, own_reference, dying_times as plain_dying}
use Rattle.core_law.specs.plain_state.Sound as plain
use Rattle.core_law.specs.plain_state.State.{PlainSeat, new_slot, slot_at, stage_at}
use Rattle.core_law.specs.core_events.Words.{slot_in}
use Rattle.epoch_core.specs.declared.shape.EpochShape.{EpochShape}
use Rattle.epoch_core.specs.declared.view.EpochView.{EpochView}
use Rattle.core_law.proofs.Each.{length_each}
use Rattle.epoch_core.specs.Words.{field_at, payload_at}
use Rattle.epoch_core.specs.Runs.{Core, opened_at}
use Rattle.epoch_core.specs.Counts.{adds_used, guarding, undated, pending_times, refs}
use Rattle.epoch_core.specs.Good.{stage}
use Rattle.epoch_core.specs.Shows.{shows, show_slot, is_marked}
use Rattle.epoch_core.specs.Slots.{Numbers, numbers, SlotLaw, free, held, live}
use Rattle.epoch_core.specs.Sound.{Sound}
use Rattle.epoch_core.proofs.Bridge.{past_dying, past_refs, seats_sum, shown_deferrals, shown_dying, shown_past, shown_places, shown_slot, shown_snapshots, shown_stage, shown_strong, shown_weak, other_snapshots, total_find}
use Rattle.epoch_core.proofs.Held.{from_le, total_le}
use Rattle.epoch_core.proofs.Parts.{by}

marked_off : (st : Stage) → st ≢ Live → is_marked st ≡ true
marked_off Free off = refl
marked_off Blank off = refl
marked_off Live off = absurd (off refl)
marked_off Ended off = refl
marked_off Husk off = refl

null_slot : (w : ℕ) → w ≡ 0 → slot_in w ≡ None
null_slot w e = ap slot_in e

own_free : (st : Stage) → 0 < own_reference st → st ≢ Free
own_free Free pos = absurd (omega arith)
own_free Blank pos = λ e. absurd cc
own_free Live pos = λ e. absurd cc
own_free Ended pos = λ e. absurd cc
own_free Husk pos = absurd (omega arith)

own_most : (st : Stage) → own_reference st ≤ 1
own_most Free = omega arith
own_most Blank = omega arith
own_most Live = omega arith
own_most Ended = omega arith
own_most Husk = omega arith

few_refs : (a : ℕ) (m : Numbers) → SlotLaw a m → m.refs ≤ a
few_refs a m (free l) = let r = l.refs in omega arith
few_refs a m (held l) = let r = l.refs in omega arith
few_refs a m (live l) = let r = l.word in let f = l.few in omega arith

-- what guards a slot that was seen is deferred
pub guard_deferred : (g : ℕ) (s : SlotId) (v : EpochView)
    → guarding g s v ≤ pending_times s v.pending + undated s v.phase
guard_deferred g s v = let f = from_le g s v.pending in omega arith

module _ (z : EpochShape) (c : Core) (so : Sound z c) where
  past : (s : SlotId) → z.slots ≤ s.0 → stage_at (shows z c) s ≡ Free
  past s le = ap (λ (x : PlainSlot). x.stage) (shown_past z c s le)

  -- what an open region has seen is held by a place, or has a deferred entry
  pub covered : IsCovered (shows z c)
  covered Strong s pos =
      let e = shown_snapshots z c s in
      let f = total_find (λ (v : EpochView). times s v.seen) c.views (omega arith) in
      let h = f.1 in
      let sv = so.views in
      let w = so.seen f.0 s (omega arith) f.2 in
      let t = total_le (guarding (opened_at c f.0) s)
      (λ (v : EpochView). pending_times s v.pending + undated s v.phase) c.views
      (guard_deferred (opened_at c f.0) s) in
      let d = shown_deferrals z c s in
      let p = shown_places z c s in omega arith
  covered Weak s pos = let o = (other_snapshots z c s).0 in absurd (omega arith)
  covered Disposal s pos = let o = (other_snapshots z c s).1 in absurd (omega arith)

  strong_live : (s : SlotId) → 0 < strong_refs (shows z c) s
      → (stage_at (shows z c) s ≡ Live) × ((slot_at (shows z c) s).marked ≡ false)
  strong_live s pos = ⊎_elim
      (λ (hs : s.0 < z.slots).
      let e = shown_strong z c s in
      let is = (by z c so s hs).live (omega arith) in (
        shown_stage z c s hs ∙ is,
        ap (λ (x : PlainSlot). x.marked) (shown_slot z c s hs) ∙ ap is_marked is,
      ))
      (λ (le : z.slots ≤ s.0).
      let e = shown_strong z c s in
      let r = past_refs z c s so le in absurd (omega arith))
      (cases_lt s.0 z.slots)

  weak_kept : (s : SlotId) → 0 < weak_refs (shows z c) s → stage_at (shows z c) s ≢ Free
  weak_kept s pos = let e = shown_weak z c s in own_free (stage_at (shows z c) s) (omega arith)

  once_dying : (s : SlotId) → plain_dying (shows z c) s ≤ 1
  once_dying s = ⊎_elim
      (λ (hs : s.0 < z.slots). let e = shown_dying z c s in let t = (by z c so s hs).once in omega arith)
      (λ (le : z.slots ≤ s.0). let e = shown_dying z c s in let r = past_dying z c s so le in omega arith)
      (cases_lt s.0 z.slots)

  ended_dying : (s : SlotId) → (stage_at (shows z c) s ≡ Ended) ↔ (0 < plain_dying (shows z c) s)
  ended_dying s = ⊎_elim
      (λ (hs : s.0 < z.slots).
      let e = shown_dying z c s in
      let is = shown_stage z c s hs in
      let b = by z c so s hs in
      ((λ x. let p = b.dies (sym is ∙ x) in omega arith), (λ p. is ∙ b.ended (omega arith))))
      (λ (le : z.slots ≤ s.0).
      let e = shown_dying z c s in
      let r = past_dying z c s so le in
      let is = past s le in
      ((λ x. absurd (cc (is, x))), (λ p. absurd (omega arith))))
      (cases_lt s.0 z.slots)

  marked : (s : SlotId) → stage_at (shows z c) s ≢ Live → (slot_at (shows z c) s).marked ≡ true
  marked s off = ⊎_elim
      (λ (hs : s.0 < z.slots).
      ap (λ (x : PlainSlot). x.marked) (shown_slot z c s hs)
      ∙ marked_off (stage z c s) (λ e. off (shown_stage z c s hs ∙ e)))
      (λ (le : z.slots ≤ s.0). ap (λ (x : PlainSlot). x.marked) (shown_past z c s le))
      (cases_lt s.0 z.slots)

  vacant : (s : SlotId) → IsVacant (slot_at (shows z c) s) → HasNullFields (slot_at (shows z c) s)
  vacant s off = ⊎_elim
      (λ (hs : s.0 < z.slots).
      let is = shown_stage z c s hs in
      let n = (by z c so s hs).vacant (λ e. off.0 (is ∙ e)) (λ e. off.1 (is ∙ e)) in
      let x = shown_slot z c s hs in (
        ap (λ (y : PlainSlot). y.first) x ∙ null_slot (slice_index c.words (field_at z s 0)) (omega arith),
        ap (λ (y : PlainSlot). y.second) x ∙ null_slot (slice_index c.words (field_at z s 1)) (omega arith),
        ap (λ (y : PlainSlot). y.weak_field) x,
      ))
      (λ (le : z.slots ≤ s.0).
      let x = shown_past z c s le in (
        ap (λ (y : PlainSlot). y.first) x,
        ap (λ (y : PlainSlot). y.second) x,
        ap (λ (y : PlainSlot). y.weak_field) x,
      ))
      (cases_lt s.0 z.slots)

  pub shows_lawful : Lawful (shows z c)
  shows_lawful = record {
    covered = covered;
    strong = strong_live;
    weak = weak_kept;
    once = once_dying;
    dying = ended_dying;
    marks = marked;
    nulls = vacant;
  }

  -- no slot has more references than adds were used, and payloads have sixteen words
  few : (s : SlotId) → refs z c s ≤ adds_used c
  few s = ⊎_elim
      (λ (hs : s.0 < z.slots). few_refs (adds_used c) (numbers z c s) (so.slots s hs))
      (λ (le : z.slots ≤ s.0). let r = past_refs z c s so le in omega arith)
      (cases_lt s.0 z.slots)

  pub shows_sound : plain.Sound (shows z c)
  shows_sound = record {
    lawful = shows_lawful;
    strong_few = λ s.
        let e = shown_strong z c s in
        let a = seats_sum (λ (v : PlainSeat). v.adds) c.views in
        let f = few s in omega arith;
    weak_few = λ s.
        let e = shown_weak z c s in
        let o = own_most (stage_at (shows z c) s) in omega arith;
    payloads = All-from_get_or (λ (x : PlainSlot). length x.payload ≡ 16) (shows z c).slots new_slot
        (λ i h.
        let l = length_each 0 z.slots (λ x. show_slot z c (record { 0 = x })) in
        let e = shown_slot z c (record { 0 = i }) (omega arith) in
        ap (λ (x : PlainSlot). length x.payload) e
        ∙ length_each 0 16 (λ k. slice_index c.words (payload_at z (record { 0 = i }) k)));
  }
