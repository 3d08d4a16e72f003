-- The deed ReadPart keeps the law.
use Rattle.std.proofs.Common.{ℕ, subst, sym}
use Rattle.std.specs.Prelude.{List, ◌++◌}
use Rattle.std.proofs.lemmas.List.{get_or-set_same}
use Rattle.snapshot_ptr.specs.plain_state.State.{Plain}
use Rattle.snapshot_ptr.specs.plain_protocol.Laws.{Keeps}
use Rattle.directory_calls.specs.directory_law.declared.view.Ran.{Ran}
use Rattle.directory_calls.specs.directory_law.declared.view.View.{View}
use Rattle.directory_calls.specs.directory_law.Views.{In, gone, view_at}
use Rattle.directory_calls.specs.directory_law.Payloads.{Text, IsText}
use Rattle.directory_calls.specs.directory_law.Cells.{Area}
use Rattle.directory_calls.specs.directory_law.Learnt.{Running}
use Rattle.directory_calls.specs.directory_law.Law.{DirectoryLaw}
use Rattle.directory_calls.specs.directory_law.Lessons.{ReadReady, read_next}
use Rattle.directory_calls.proofs.Below.directory_law_Ends.{kept_is}
use Rattle.directory_calls.proofs.Below.directory_law_Notes.{each_in}
use Rattle.directory_calls.proofs.Below.directory_law_ReadingOn.{read_keeps}
use Rattle.text_reading.specs.Going.{PartTells}

-- by the law each text that a seat has begun to read goes on to a whole one
runs_on : (z : Area) (p : Plain) (views : List View) (n : ℕ) (e : Ran) → DirectoryLaw z p views
    → In e (view_at views n).ran → (rest : Text) × IsText (e.before ++ rest)
runs_on z p views n e law in' =
    let r = each_in (Running p views) e (view_at views n).ran in' (law.learnt n).ran in
    (r.0, kept_is z p views e.slot e.life (e.before ++ r.0) law r.1)

pub part_keeps : (z : Area) → Keeps (DirectoryLaw z) gone ReadReady read_next PartTells
part_keeps z p q views n step found meets here ready does =
    let kept = read_keeps z p q views n step found meets here ready does in (
      kept.0,
      record {
        read = kept.1;
        goes_on = λ e in'. runs_on z q _ n e kept.0
            (subst (λ (v : View). In e v.ran) (sym (get_or-set_same views n _ gone here)) in');
      },
    )
