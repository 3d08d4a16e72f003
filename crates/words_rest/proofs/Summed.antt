-- What lives are the slots of the records that seat 0 owns, each once, whatever a node weighs.
use Rattle.std.specs.Prelude.{sum_by}
use Rattle.std.proofs.Common.{◌≡◌, ℕ, List, [], ◌∷◌, length, refl, ◌∙◌, arith}
use Rattle.std.proofs.lemmas.List.Sums.{sum_by-cons}
use Rattle.plain_audit.specs.plain_state.declared.slot.SlotId.{SlotId}
use Rattle.plain_audit.specs.plain_state.Lawful.{Lawful}
use Rattle.plain_audit.specs.plain_state.State.{Plain, slot_at}
use Rattle.words_law.specs.protocol_pairs.Shares.{weight_in_part}
use Rattle.words_law.specs.protocol_pairs.Weights.{right_weight}
use Rattle.words_law.specs.directory_law.Bytes.{piece_weight, text_bytes}
use Rattle.words_law.specs.directory_law.Cells.{Area}
use Rattle.words_law.specs.directory_law.Law.{DirectoryLaw}
use Rattle.words_law.specs.directory_law.Payloads.{IsText, Text}
use Rattle.words_law.specs.directory_law.Views.{Each}
use Rattle.plain_audit.specs.Audits.{live_bytes, live_slots}
use Rattle.words_law.specs.cdrc_text.Text.{slots_of_word}
use Rattle.words_law.specs.Texts.{AllPieces, all_kept, text_in}
use Rattle.words_law.specs.Views.{View, directories}
use Rattle.record_counts.specs.Records.{AreOwned, OwnsTexts}
use Rattle.record_counts.proofs.Lengths.{IsFull, text_weighs}
use Rattle.record_counts.proofs.Summed.{records_tell}
use Rattle.record_counts.proofs.Summed as held
use Rattle.words_rest.specs.Nodes.{HasNoNode}
use Rattle.words_rest.specs.Records.{words_at}
use Rattle.words_rest.specs.Rest.{IsLeft}
use Rattle.words_rest.proofs.Heads.{owned_reads}
use Rattle.words_rest.proofs.Living.{holds}

-- the text that is kept for a slot
abbrev text_at : Plain → List View → SlotId → Text
text_at p views s = text_in (all_kept (directories views)) s (slot_at p s).life

pair_weighs : (weight : List ℕ → ℕ) (text : Text) → IsText text → Each IsFull text
    → sum_by (weight_in_part weight piece_weight) text ≡ length (text_bytes text)
pair_weighs weight text is full = own text full ∙ text_weighs text is full
  where
    own : (ts : Text) → Each IsFull ts
        → sum_by (weight_in_part weight piece_weight) ts ≡ sum_by piece_weight ts
    own [] full = refl
    own (t ∷ ts) full =
        let rest = own ts full.1 in
        let some = full.0.1 in
        let here = right_weight weight piece_weight t (λ none. omega arith) in
        let all = sum_by-cons (weight_in_part weight piece_weight) t ts in
        let all_too = sum_by-cons piece_weight t ts in omega arith

module _ (z : Area) (p : Plain) (views : List View) (lawful : Lawful p)
    (law : DirectoryLaw z p (directories views)) (left : IsLeft p views) (fit : AllPieces p)
    (none : HasNoNode p) (heads : List SlotId) (are : AreOwned p heads) where
  owns : OwnsTexts p (text_at p views)
  owns = owned_reads z p views lawful law left

  pub slots_told : live_slots p ≡ sum_by slots_of_word (words_at p views heads)
  slots_told =
      held.slots_told z p (directories views) lawful law
      (holds z p views lawful law fit left none) (text_at p views) owns heads are

  pub bytes_told : (weight : List ℕ → ℕ)
      → live_bytes (weight_in_part weight piece_weight) p
      ≡ sum_by (λ (w : List ℕ). length w) (words_at p views heads)
  bytes_told weight =
      records_tell z p (directories views) lawful law (holds z p views lawful law fit left none)
      (text_at p views) owns heads are (weight_in_part weight piece_weight)
      (λ (w : List ℕ). length w) (pair_weighs weight)
