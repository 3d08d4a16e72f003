-- The words of the references that seat 0 keeps: each slot has one, and as many files have it as there are references.
use Rattle.std.specs.Prelude.{◌↔◌}
use Rattle.std.proofs.Common.{◌≡◌, ℕ, ◌+◌, ◌<◌, ◌≤◌, List, length, ap, sym, subst, ◌∙◌, arith}
use Rattle.plain_audit.specs.plain_state.declared.slot.Kind.TheVariants.{Strong}
use Rattle.plain_audit.specs.plain_state.declared.slot.SlotId.{SlotId}
use Rattle.plain_audit.specs.plain_state.declared.slot.Stage.TheVariants.{Live}
use Rattle.plain_audit.specs.plain_state.Lawful.{Lawful}
use Rattle.plain_audit.specs.plain_state.Lists.{times}
use Rattle.plain_audit.specs.plain_state.References.{deferrals, strong_refs}
use Rattle.plain_audit.specs.plain_state.State.{Plain, slot_at, stage_at}
use Rattle.cell_law.specs.directory_law.Bytes.{AreBytes, text_bytes}
use Rattle.cell_law.specs.directory_law.Cells.{Area}
use Rattle.cell_law.specs.directory_law.Chains.{Reads}
use Rattle.cell_law.specs.directory_law.Payloads.{IsHead, IsText, Text}
use Rattle.cell_law.specs.directory_law.Views.{In, rope}
use Rattle.record_counts.specs.cdrc_text.Fold.{File, holders_in}
use Rattle.record_counts.specs.Records.{OwnsTexts}
use Rattle.record_counts.proofs.Below.directory_law_Bytes.{text_tells}
use Rattle.record_counts.proofs.Below.directory_law_Chains.{begins_head, reads_same}
use Rattle.record_counts.proofs.Living.{root_refs}
use Rattle.record_counts.proofs.Told.{files_counted, held_is_kept, held_is_told, kept_has_word, small_held}
use Rattle.cell_law.specs.Law.{CellLaw}
use Rattle.cell_law.specs.Promises.{IsSettled}
use Rattle.cell_law.specs.declared.view.View.{View}
use Rattle.cell_law.specs.Views.{BoundIn, IsOpen, view_at}
use Rattle.cell_law.proofs.Distinct.{one_head}
use Rattle.cell_law.proofs.Held.{held_by_cells, held_once}
use Rattle.cell_law.proofs.Stands.{bound_reads, bound_text, bound_word}
use Rattle.cell_rest.specs.Kept.{KeepsRecordsOf, TellsWord, told_by}
use Rattle.cell_rest.specs.Words.{text_at, word_at}
use Rattle.cell_rest.proofs.Settled.{owned_root}
use Rattle.cell_rest.proofs.Told.{text_found, told_bound}

module _ (z : Area) (p : Plain) (views : List View) (files : List File) (kept : List SlotId)
    (k : KeepsRecordsOf z p views files kept) where
  abbrev root : View
  root = view_at views 0

  -- what its view tells
  abbrev pub Told : List ℕ → SlotId → Type 0
  Told = TellsWord root

  abbrev pub word : SlotId → List ℕ
  word = word_at root

  lawful : Lawful p
  lawful = k.meets.lawful

  law : CellLaw z p views
  law = k.meets.law

  module _ (s : SlotId) (some : 0 < times s kept) where
    live : stage_at p s ≡ Live
    live =
        let own = k.owned s in
        let least = root_refs s p.seats in
        let refs : 0 < strong_refs p s = omega arith in (lawful.strong s refs).0

    -- what it tells of s is listed in the life that s is in, so it is read from there
    bound_now : (life : ℕ) (text : Text) → In (rope s life text) (told_by root)
        → BoundIn views s (slot_at p s).life text
    bound_now life text i =
        subst (λ (l : ℕ). BoundIn views s l text) (sym (k.now s some life text i))
        (told_bound z p views law 0 s life text i)

    reads_told : (life : ℕ) (text : Text) → In (rope s life text) (told_by root) → Reads p s text
    reads_told life text i = (bound_reads z p views law s text live (bound_now life text i)).1

    -- it tells one text
    first : (l : ℕ) × In (rope s l (text_at root s)) (told_by root)
    first =
        let w = kept_has_word Told files kept k.tells s some in
        let told = w.1 in text_found (told_by root) s told.0 told.1 told.3

    bound : BoundIn views s (slot_at p s).life (text_at root s)
    bound = bound_now first.0 (text_at root s) first.1

    pub reads : Reads p s (text_at root s) × IsText (text_at root s)
    reads = (
      reads_told first.0 (text_at root s) first.1,
      bound_text z p views law s (slot_at p s).life (text_at root s) bound,
    )

    head : IsHead (slot_at p s).payload
    head = begins_head p s (text_at root s) reads.1 (reads.0.0, reads.0.1)

    pub kept_word_is : (w : List ℕ) → AreBytes w → Told w s → w ≡ word s
    kept_word_is w bytes told =
        let one = reads_same p s told.1 (text_at root s) (reads_told told.0 told.1 told.3)
        reads.0 in
        sym (text_tells w told.1 bytes told.2) ∙ ap text_bytes one

    pub kept_told : Told (word s) s × AreBytes (word s)
    kept_told =
        let is = bound_word z p views law s (slot_at p s).life (text_at root s) bound in
        let same : is.0 ≡ word s = sym (text_tells is.0 (text_at root s) is.1 is.2) in
        subst (λ (w : List ℕ). Told w s × AreBytes w) same
        ((first.0, text_at root s, is.2, first.1), is.1)

  pub kept_one : (s t : SlotId) → 0 < times s kept → 0 < times t kept → word s ≡ word t → s ≡ t
  kept_one s t some more same =
      (one_head z p views law s t (slot_at p s).life (slot_at p t).life (text_at root s)
      (text_at root t) (bound s some) (bound t more) same).0

  pub owns_texts : OwnsTexts p (text_at root)
  owns_texts s own = let is = k.owned s in reads s (omega (arith, own, is))

  -- HOW OFTEN
  abbrev IsKept : SlotId → Type 0
  IsKept s = 0 < times s kept

  own_word : (w : List ℕ) (s : SlotId) → IsKept s → AreBytes w → Told w s → w ≡ word s
  own_word w s some = kept_word_is s some w

  pub kept_counted : (s : SlotId) → IsKept s → times s kept ≡ holders_in (word s) files
  kept_counted = files_counted Told word IsKept own_word kept_one files kept k.tells k.bytes
      (λ t some. some)

  pub told_counted : (s : SlotId) → IsKept s → (w : List ℕ) → AreBytes w → Told w s
      → times s kept ≡ holders_in w files
  told_counted s some w bytes told =
      kept_counted s some
      ∙ ap (λ (x : List ℕ). holders_in x files) (sym (kept_word_is s some w bytes told))

  pub refs_settled : IsSettled p → (s : SlotId) → IsKept s → strong_refs p s ≡ times s kept
  refs_settled settled s some =
      let held = held_by_cells z p views lawful law k.fit s (live s some) (head s some) in
      let own = owned_root p k.others s in
      let is = k.owned s in
      let cells = settled.cells s in
      let deferred = settled.deferred s in omega arith

  refs_open : IsOpen views → z.first ≡ 0 → length p.cells ≤ z.cells → (s : SlotId) → IsKept s
      → strong_refs p s ≡ times s kept + 1 + deferrals Strong p s
  refs_open uncleared from all s some =
      let held = held_by_cells z p views lawful law k.fit s (live s some) (head s some) in
      let own = owned_root p k.others s in
      let is = k.owned s in
      let at = law.stands uncleared s (slot_at p s).life (text_at root s) (bound s some) in
      let one = held_once z p views law from all s (at.0, at.1, at.2) in omega arith

  pub told_refs : IsSettled p → (s : SlotId) → IsKept s → (w : List ℕ) → AreBytes w → Told w s
      → strong_refs p s ≡ holders_in w files
  told_refs settled s some w bytes told =
      refs_settled settled s some ∙ told_counted s some w bytes told

  pub told_open : IsOpen views → z.first ≡ 0 → length p.cells ≤ z.cells → (s : SlotId) → IsKept s
      → (w : List ℕ) → AreBytes w → Told w s
      → strong_refs p s ≡ holders_in w files + 1 + deferrals Strong p s
  told_open uncleared from all s some w bytes told =
      let refs = refs_open uncleared from all s some in
      let counted = told_counted s some w bytes told in omega arith

  -- WORDS OF FILES
  pub words_told : (w : List ℕ)
      → (0 < holders_in w files) ↔ ((s : SlotId) × (0 < times s kept) × AreBytes w × Told w s)
  words_told w = (
    λ some.
        let r = held_is_told Told w files kept k.tells some in
        (r.0, r.1, small_held w files some k.bytes, r.2),
    λ r.
        let counted = told_counted r.0 r.1 w r.2 r.3 in
        let some = r.1 in omega arith,
  )

  pub words_kept : (w : List ℕ)
      → (0 < holders_in w files) ↔ ((s : SlotId) × (0 < times s kept) × (word s ≡ w))
  words_kept w = (
    held_is_kept Told word IsKept own_word kept_one w files kept k.tells k.bytes (λ t some. some),
    λ r.
        let counted = kept_counted r.0 r.1 in
        let same = ap (λ (x : List ℕ). holders_in x files) r.2 in
        let some = r.1 in omega arith,
  )
