-- What is left is the report of the files.
use Rattle.std.proofs.Common.{◌≡◌, ℕ, ◌<◌, ◌≤◌, inl, inr, List, [], ◌∷◌, length, map, refl, sym, ap, subst, ◌∙◌, arith}
use Rattle.std.specs.Prelude.{Some}
use Rattle.std.specs.List.{All, Contains, sum_by}
use Rattle.std.specs.Cmp.Lexicographic.{slice_cmp}
use Rattle.std.specs.Ordering.{nat_cmp}
use Rattle.std.proofs.lemmas.Map.Keys.{sorted_tail}
use Rattle.std.proofs.lemmas.Bool.{cases_lt}
use Rattle.std.proofs.lemmas.List.Elements.{All-cons}
use Rattle.plain_audit.specs.plain_state.declared.slot.SlotId.{SlotId}
use Rattle.plain_audit.specs.plain_state.Lists.{times}
use Rattle.plain_audit.specs.plain_state.References.{strong_refs}
use Rattle.plain_audit.specs.plain_state.State.{Plain, seat_at}
use Rattle.plain_audit.proofs.Below.plain_state_Kit.{cases_slot, held_once, held_other, held_same, times_cons, times_none}
use Rattle.directory_law.specs.Bytes.{AreBytes}
use Rattle.cdrc_text.specs.declared.row.Row.{Row}
use Rattle.cdrc_text.specs.Fold.{File, IsInByteOrder, holders_in}
use Rattle.cdrc_text.specs.Report.{report_of}
use Rattle.cdrc_text.specs.Text.{IsReport, IsRowOf, totals_in, word_of}
use Rattle.cdrc_text.proofs.Reported.{text-report}
use Rattle.cdrc_text.proofs.Unique.{Contains-first, Contains-later, below-later, cases-cons, not-both}
use Rattle.plain_audit.specs.heap_audit.declared.finding.Audit.{Audit}
use Rattle.record_counts.specs.Records.{AreOwned, FindsRecords}
use Rattle.record_counts.specs.Written.{AreRowsAt, HaveWords, IsRowAt, totals_found}
use Rattle.record_counts.proofs.Living.{root_refs}
use Rattle.record_counts.proofs.Told.{small_held}

-- rows with the numbers of their words, and what audits found, are the report
pub rows_report : (all : List File) (rounds : ℕ) (rows : List Row) (held freed : Audit)
    → HaveWords all rows → All (IsRowOf all rounds) rows → FindsRecords (map word_of rows) held
    → FindsRecords [] freed → IsReport all rounds (report_of rows (totals_found all held freed))
rows_report all rounds rows held freed have rows_are found nothing =
    text-report all rounds rows (totals_found all held freed)
    (record { in_order = have.in_order; held = have.held }) rows_are totals
  where
    totals : totals_found all held freed ≡ totals_in (map word_of rows) all
    totals = λ i. record {
      files = length all;
      pieces = sum_by (λ (f : File). length f) all;
      held = record {
        live = found.live i;
        deferred = found.deferred i;
        cyclic = found.cyclic i;
        bytes = found.bytes i;
      };
      freed = record {
        live = nothing.live i;
        deferred = nothing.deferred i;
        cyclic = nothing.cyclic i;
        bytes = nothing.bytes i;
      };
    }

-- Rows of kept slots. A word that is told of a kept slot is that slot's own, each kept slot has another one, and as
-- many references as there are files with it.
module _ (Told : List ℕ → SlotId → Type 0) (p : Plain) (kept : List SlotId) (word : SlotId → List ℕ)
    (word_is : (s : SlotId) → 0 < times s kept → (w : List ℕ) → AreBytes w → Told w s → w ≡ word s)
    (one : (s t : SlotId) → 0 < times s kept → 0 < times t kept → word s ≡ word t → s ≡ t)
    (all : List File)
    (refs : (s : SlotId) → 0 < times s kept → strong_refs p s ≡ holders_in (word s) all)
    (small : All (λ (words : File). All AreBytes words) all) (rounds : ℕ) where
  abbrev At : Row → SlotId → Type 0
  At = IsRowAt Told all rounds p kept

  abbrev Rows : List Row → List SlotId → Type 0
  Rows = AreRowsAt Told all rounds p kept

  -- the word of a row is that of its slot
  row_word : (row : Row) (s : SlotId) → At row s → 0 < holders_in (word_of row) all
      → word_of row ≡ word s
  row_word row s at some =
      word_is s at.is_kept (word_of row) (small_held (word_of row) all some small) at.tells

  row_is : (row : Row) (s : SlotId) → At row s → 0 < holders_in (word_of row) all
      → IsRowOf all rounds row
  row_is row s at some = (
    at.occurrences,
    at.holders
        ∙ refs s at.is_kept
        ∙ ap (λ w. holders_in w all) (sym (row_word row s at some)),
  )

  -- each word of the rows is held
  abbrev AreHeld : List Row → Type 0
  AreHeld rows = (w : List ℕ) → Contains (map word_of rows) w → 0 < holders_in w all

  held_first : (row : Row) (rows : List Row) → AreHeld (row ∷ rows)
      → 0 < holders_in (word_of row) all
  held_first row rows held = held (word_of row) (Contains-first (word_of row) (map word_of rows))

  held_later : (row : Row) (rows : List Row) → AreHeld (row ∷ rows) → AreHeld rows
  held_later row rows held w has = held w (Contains-later (word_of row) (map word_of rows) w has)

  pub rows_are : (rows : List Row) (ss : List SlotId) → Rows rows ss → AreHeld rows
      → All (IsRowOf all rounds) rows
  rows_are [] [] at held = λ k d h. absurd (omega arith)
  rows_are [] (s ∷ ss) at held = absurd at
  rows_are (row ∷ rows) [] at held = absurd at
  rows_are (row ∷ rows) (s ∷ ss) at held =
      All-cons (IsRowOf all rounds) row rows (row_is row s at.0 (held_first row rows held))
      (rows_are rows ss at.1 (held_later row rows held))

  pub words_are : (rows : List Row) (ss : List SlotId) → Rows rows ss → AreHeld rows
      → map word ss ≡ map word_of rows
  words_are [] [] at held = refl
  words_are [] (s ∷ ss) at held = absurd at
  words_are (row ∷ rows) [] at held = absurd at
  words_are (row ∷ rows) (s ∷ ss) at held =
      let first = row_word row s at.0 (held_first row rows held) in
      let rest = words_are rows ss at.1 (held_later row rows held) in
      (λ i. sym first i ∷ rest i)

  -- a slot among those of the rows is kept, and its word is among theirs
  slot_in : (rows : List Row) (ss : List SlotId) → Rows rows ss → AreHeld rows → (s : SlotId)
      → 0 < times s ss
      → (0 < times s kept) × Contains (map word_of rows) (word s)
  slot_in [] [] at held s some = absurd (omega (arith, some, times_none s))
  slot_in [] (t ∷ ss) at held s some = absurd at
  slot_in (row ∷ rows) [] at held s some = absurd at
  slot_in (row ∷ rows) (t ∷ ss) at held s some = elim (cases_slot t s) [
    | inl is ↦ (
      subst (λ (x : SlotId). 0 < times x kept) is at.0.is_kept,
      subst (Contains (map word_of (row ∷ rows)))
          (row_word row t at.0 (held_first row rows held) ∙ ap word is)
          (Contains-first (word_of row) (map word_of rows)),
    )
    | inr other ↦
        let later = slot_in rows ss at.1 (held_later row rows held) s
        (omega (arith, some, times_cons s t ss, held_other s t other)) in (
          later.0,
          Contains-later (word_of row) (map word_of rows) (word s) later.1,
        )
  ]

  -- a kept slot whose word is among theirs is among the slots
  slot_of : (rows : List Row) (ss : List SlotId) → Rows rows ss → AreHeld rows → (s : SlotId)
      → 0 < times s kept → Contains (map word_of rows) (word s) → 0 < times s ss
  slot_of [] [] at held s is has = absurd (omega (arith, has.1))
  slot_of [] (t ∷ ss) at held s is has = absurd at
  slot_of (row ∷ rows) [] at held s is has = absurd at
  slot_of (row ∷ rows) (t ∷ ss) at held s is has =
      elim (cases-cons (word_of row) (map word_of rows) (word s) has) [
        | inl first ↦
            let one = one t s at.0.is_kept is
            (sym (row_word row t at.0 (held_first row rows held)) ∙ first) in
            omega (arith, times_cons s t ss, held_same s t (ap (λ (x : SlotId). x.0) one))
        | inr later ↦
            let more = slot_of rows ss at.1 (held_later row rows held) s is later in
            omega (arith, more, times_cons s t ss)
      ]

  -- no slot stands there twice
  slots_once : (rows : List Row) (ss : List SlotId) → Rows rows ss → AreHeld rows
      → IsInByteOrder (map word_of rows) → (s : SlotId) → times s ss ≤ 1
  slots_once [] [] at held order s = omega (arith, times_none s)
  slots_once [] (t ∷ ss) at held order s = absurd at
  slots_once (row ∷ rows) [] at held order s = absurd at
  slots_once (row ∷ rows) (t ∷ ss) at held order s = elim (cases_slot t s) [
    | inl is ↦ elim (cases_lt 0 (times s ss)) [
      | inl again ↦
          let later = slot_in rows ss at.1 (held_later row rows held) s again in
          let word = row_word row t at.0 (held_first row rows held) ∙ ap word is in
          let below = below-later (word_of row) (map word_of rows) (word_of row) order
          (subst (Contains (map word_of rows)) (sym word) later.1) in
          absurd (not-both (word_of row) (word_of row) below below)
      | inr once ↦ omega (arith, once, times_cons s t ss, held_once s (Some t))
    ]
    | inr other ↦
        let rest = slots_once rows ss at.1 (held_later row rows held)
        (sorted_tail (slice_cmp nat_cmp) (word_of row) (map word_of rows) order) s in
        omega (arith, rest, times_cons s t ss, held_other s t other)
  ]

  -- what is owned are the slots of the rows
  pub rows_owned : ((s : SlotId) → times s (seat_at p 0).owned ≡ times s kept) → (rows : List Row)
      (slots : List SlotId) → Rows rows slots → HaveWords all rows → AreOwned p slots
  rows_owned own rows slots at have = record {
    owned = λ s. (
      (λ some. let in_rows = slot_in rows slots at are_held s some in
          let same = own s in omega (arith, in_rows.0, same)),
      (λ some. let same = own s in
          let is : 0 < times s kept = omega (arith, some, same) in
          slot_of rows slots at are_held s is ((have.held (word s)).1
          (let least = root_refs s p.seats in
          let count = refs s is in
          omega (arith, some, least, count)))),
    );
    once = slots_once rows slots at are_held have.in_order;
  }
    where
      are_held : AreHeld rows
      are_held w has = (have.held w).0 has

  -- where an audit finds the records of the rows' slots, and one later finds nothing, the rows are the report
  pub is_report : (rows : List Row) (slots : List SlotId) (held freed : Audit) → Rows rows slots
      → HaveWords all rows → FindsRecords (map word slots) held → FindsRecords [] freed
      → IsReport all rounds (report_of rows (totals_found all held freed))
  is_report rows slots held freed at have found nothing =
      rows_report all rounds rows held freed have (rows_are rows slots at are_held)
      (subst (λ (ws : List (List ℕ)). FindsRecords ws held) (words_are rows slots at are_held)
      found)
      nothing
    where
      are_held : AreHeld rows
      are_held w has = (have.held w).0 has
