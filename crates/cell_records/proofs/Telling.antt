-- What a view tells of a word it goes on to tell where its seat learns more; so a walk never finds the word untold.
use Rattle.std.proofs.Common.{ℕ, List, sym, subst, ⊎_elim}
use Rattle.cell_intern.specs.cell_calls.Keeping.{Learns}
use Rattle.cell_intern.specs.cell_calls.cell_law.Views.{TellsNone, bound_in}
use Rattle.cell_intern.specs.cell_calls.cell_law.declared.view.View.{View}
use Rattle.cell_intern.specs.cell_calls.cell_law.directory_law.Bytes.{IsTextOf}
use Rattle.cell_intern.specs.cell_calls.cell_law.directory_law.Views.{In, rope}
use Rattle.cell_intern.specs.cell_calls.cell_law.directory_law.declared.view.Rope.{Rope}
use Rattle.cell_intern.specs.cell_calls.cell_law.plain_state.declared.slot.SlotId.{SlotId}
use Rattle.cell_rest.proofs.Below.cell_law_Kit.{in_either}
use Rattle.cell_rest.specs.Kept.{TellsWord, told_by}
use Rattle.cell_rest.proofs.Below.directory_law_Bytes.{one_text}
use Rattle.cell_rest.proofs.Below.directory_law_Notes.{in_left, in_right}
use Rattle.cell_intern.specs.record_texts.Texts.{text_of}
use Rattle.cell_records.specs.Records.{IsTold}

-- what was found is told
pub found_tells : (v : View) (w : List ℕ) (s : SlotId) (life : ℕ) → IsTextOf w (text_of w)
    → In (rope s life (text_of w)) v.found → TellsWord v w s
found_tells v w s life is found =
    (life, text_of w, is, in_left (rope s life (text_of w)) v.found (bound_in v) found)

module _ (v w : View) (learns : Learns v w) where
  pub told_on : (e : Rope) → In e (told_by v) → In e (told_by w)
  told_on e there = ⊎_elim
      (λ (found : In e v.found). in_left e w.found (bound_in w) (learns.found e found))
      (λ (listed : In e (bound_in v)).
      in_right e w.found (bound_in w)
      (subst (λ (x : View). In e (bound_in x)) (sym learns.rest) listed))
      (in_either e v.found (bound_in v) there)

  pub tells_on : (word : List ℕ) (s : SlotId) → TellsWord v word s → TellsWord w word s
  tells_on word s told = (told.0, told.1, told.2, told_on (rope s told.0 told.1) told.3)

  -- a word that was told is told still
  pub never_untold : (word : List ℕ) → IsTextOf word (text_of word) → IsTold v word
      → TellsNone w (text_of word) → ⊥
  never_untold word is told none =
      let t = tells_on word told.0 told.1 in
      none (rope told.0 t.0 t.1) t.3 (one_text word t.1 (text_of word) t.2 is)
