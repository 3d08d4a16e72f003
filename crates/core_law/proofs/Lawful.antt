-- What a core shows is lawful.
use Rattle.std.proofs.Common.{◌≡◌, ◌≢◌, ⊎_elim, ℕ, ◌+◌, ◌^◌, ◌<◌, ◌≤◌, true, false, ap, sym, ◌∙◌, arith}
use Rattle.std.specs.Prelude.{◌↔◌, slice_index, None}
use Rattle.std.proofs.lemmas.Bool.{cases_lt}
use Rattle.std.proofs.lemmas.Bool.Decides.{nat_tests}
use Rattle.core_events.specs.plain_state.declared.slot.Kind.TheVariants.{Strong, Weak}
use Rattle.core_events.specs.plain_state.declared.slot.SlotId.{SlotId}
use Rattle.core_events.specs.plain_state.declared.slot.Stage.TheVariants.{Free, Live, Ended}
use Rattle.core_events.specs.plain_state.declared.slot.PlainSlot.{PlainSlot}
use Rattle.core_events.specs.plain_state.Lawful.{Lawful, IsVacant, HasNullFields}
use Rattle.core_events.specs.plain_state.References.{strong_refs, weak_refs, own_reference, dying_times as plain_dying}
use Rattle.core_events.specs.plain_state.State.{slot_at, stage_at}
use Rattle.core_events.specs.declared.shape.Shape.{Shape}
use Rattle.core_events.specs.Words.{slot_in, field_at, weak_field_at}
use Rattle.core_events.specs.counter_word.Words.{has_zero}
use Rattle.core_events.specs.Runs.{Core}
use Rattle.core_events.specs.Counts.{adds_used}
use Rattle.core_events.specs.Shows.{shows}
use Rattle.core_law.specs.Slots.{Numbers, numbers, SlotLaw}
use Rattle.core_law.specs.Sound.{Sound}
use Rattle.core_law.proofs.Parts.{stage_in, stage_is, vacant_nulls}
use Rattle.core_law.proofs.Put.{adds_fit}
use Rattle.core_law.proofs.Covered.{covered}
use Rattle.core_law.proofs.Bridge.{shown_stage, shown_slot, shown_past, shown_strong, shown_weak, shown_dying, refs_past, dying_past}

-- what the law of a slot tells of its stage
strong_tells : (a : ℕ) (m : Numbers) (law : SlotLaw a m) → a < 2 ^ 60 → 0 < m.strong_refs
    → (stage_in law ≡ Live) × (has_zero m.strong ≡ false)
strong_tells a m law fit pos = grind (arith, nat_tests)

weak_tells : (a : ℕ) (m : Numbers) (law : SlotLaw a m) → 0 < m.weak_refs
    + own_reference (stage_in law) → stage_in law ≢ Free
weak_tells a m law pos = grind arith

dying_tells : (a : ℕ) (m : Numbers) (law : SlotLaw a m) → (m.dying ≤ 1)
    × ((stage_in law ≡ Ended) ↔ (0 < m.dying))
dying_tells a m law = grind arith

marks_tell : (a : ℕ) (m : Numbers) (law : SlotLaw a m) → stage_in law ≢ Live
    → has_zero m.strong ≡ true
marks_tell a m law off = grind (arith, nat_tests)

null_slot : (w : ℕ) → w ≡ 0 → slot_in w ≡ None
null_slot w e = ap slot_in e

module _ (z : Shape) (c : Core) (so : Sound z c) where
  stage_told : (s : SlotId) (hs : s.0 < z.slots) → stage_at (shows z c) s ≡ stage_in (so.slots s hs)
  stage_told s hs =
      shown_stage z c s hs
      ∙ stage_is (adds_used c) (numbers z c s) (so.slots s hs) (adds_fit z c so)

  past : (s : SlotId) → z.slots ≤ s.0 → stage_at (shows z c) s ≡ Free
  past s le = ap (λ (x : PlainSlot). x.stage) (shown_past z c s le)

  strong_live : (s : SlotId) → 0 < strong_refs (shows z c) s → (stage_at (shows z c) s ≡ Live)
      × ((slot_at (shows z c) s).marked ≡ false)
  strong_live s pos = ⊎_elim
      (λ (hs : s.0 < z.slots).
      let e = shown_strong z c s in
      let t = strong_tells (adds_used c) (numbers z c s) (so.slots s hs) (adds_fit z c so)
      (omega arith) in (
        stage_told s hs ∙ t.0,
        ap (λ (x : PlainSlot). x.marked)
            (shown_slot z c s hs) ∙ t.1,
      ))
      (λ (le : z.slots ≤ s.0).
      let e = shown_strong z c s in
      let r = refs_past z c Strong s so le in absurd (omega arith))
      (cases_lt s.0 z.slots)

  weak_kept : (s : SlotId) → 0 < weak_refs (shows z c) s → stage_at (shows z c) s ≢ Free
  weak_kept s pos = ⊎_elim
      (λ (hs : s.0 < z.slots).
      let e = shown_weak z c s in
      let o = ap own_reference (stage_told s hs) in
      let t = weak_tells (adds_used c) (numbers z c s) (so.slots s hs) (omega arith) in
      λ is. t (sym (stage_told s hs) ∙ is))
      (λ (le : z.slots ≤ s.0).
      let e = shown_weak z c s in
      let o = ap own_reference (past s le) in
      let r = refs_past z c Weak s so le in absurd (omega arith))
      (cases_lt s.0 z.slots)

  once_dying : (s : SlotId) → plain_dying (shows z c) s ≤ 1
  once_dying s = ⊎_elim
      (λ (hs : s.0 < z.slots).
      let e = shown_dying z c s in
      let t = (dying_tells (adds_used c) (numbers z c s) (so.slots s hs)).0 in omega arith)
      (λ (le : z.slots ≤ s.0).
      let e = shown_dying z c s in
      let r = dying_past z c s so le in omega arith)
      (cases_lt s.0 z.slots)

  ended_dying : (s : SlotId) → (stage_at (shows z c) s ≡ Ended) ↔ (0 < plain_dying (shows z c) s)
  ended_dying s = ⊎_elim
      (λ (hs : s.0 < z.slots).
      let e = shown_dying z c s in
      let t = (dying_tells (adds_used c) (numbers z c s) (so.slots s hs)).1 in
      let is = stage_told s hs in (
        (λ x. let p = t.0 (sym is ∙ x) in omega arith),
        (λ p. is ∙ t.1 (omega arith)),
      ))
      (λ (le : z.slots ≤ s.0).
      let e = shown_dying z c s in
      let r = dying_past z c s so le in
      let is = past s le in (
        (λ x. absurd (cc (is, x))),
        (λ p. absurd (omega arith)),
      ))
      (cases_lt s.0 z.slots)

  marked : (s : SlotId) → stage_at (shows z c) s ≢ Live → (slot_at (shows z c) s).marked ≡ true
  marked s off = ⊎_elim
      (λ (hs : s.0 < z.slots).
      ap (λ (x : PlainSlot). x.marked) (shown_slot z c s hs)
      ∙ marks_tell (adds_used c) (numbers z c s) (so.slots s hs) (λ e. off (stage_told s hs ∙ e)))
      (λ (le : z.slots ≤ s.0). ap (λ (x : PlainSlot). x.marked) (shown_past z c s le))
      (cases_lt s.0 z.slots)

  vacant : (s : SlotId) → IsVacant (slot_at (shows z c) s) → HasNullFields (slot_at (shows z c) s)
  vacant s off = ⊎_elim
      (λ (hs : s.0 < z.slots).
      let is = stage_told s hs in
      let n = vacant_nulls (adds_used c) (numbers z c s) (so.slots s hs) (λ e. off.0 (is ∙ e))
      (λ e. off.1 (is ∙ e)) in
      let x = shown_slot z c s hs in (
        ap (λ (y : PlainSlot). y.first) x ∙ null_slot (slice_index c.words (field_at z s 0))
            (omega arith),
        ap (λ (y : PlainSlot). y.second) x ∙ null_slot (slice_index c.words (field_at z s 1))
            (omega arith),
        ap (λ (y : PlainSlot). y.weak_field) x ∙ null_slot (slice_index c.words (weak_field_at z s))
            (omega arith),
      ))
      (λ (le : z.slots ≤ s.0).
      let x = shown_past z c s le in (
        ap (λ (y : PlainSlot). y.first) x,
        ap (λ (y : PlainSlot). y.second) x,
        ap (λ (y : PlainSlot). y.weak_field) x,
      ))
      (cases_lt s.0 z.slots)

  pub shows_lawful : Lawful (shows z c)
  shows_lawful = record {
    covered = covered z c so;
    strong = strong_live;
    weak = weak_kept;
    once = once_dying;
    dying = ended_dying;
    marks = marked;
    nulls = vacant;
  }
