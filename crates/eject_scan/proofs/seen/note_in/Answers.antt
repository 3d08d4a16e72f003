use Rattle.std.proofs.Common.{◌∙◌, List, subst, sym}
use Rattle.eject_scan.specs.Rows.{IsGap, StandsAt}
use Rattle.eject_scan.specs.declared.seen.Row.{Row}
use Rattle.eject_scan.proofs.Rows.{missing}
use Rattle.eject_scan.proofs.Searches.{counts_here}
use Rattle.eject_scan.proofs.seen.note_in.Goals as goal

pub returns-in-Ok-clause-noted : goal.returns-in-Ok-clause-noted
returns-in-Ok-clause-noted c =
    counts_here c.args.word c.args.rows.now.items c.in-Ok.place c.index_mut.result.now
    (subst (λ (l : List Row). StandsAt c.args.word l c.in-Ok.place) c.deref.ensures.value
    c.in-Ok.ensures.place) c.index_mut.ensures.value

pub returns-in-Ok-insert-clause-noted : goal.returns-in-Ok-insert-clause-noted
returns-in-Ok-insert-clause-noted c =
    c.in-Ok-insert.ensures.items
    ∙ sym (missing c.args.word c.args.rows.now.items c.in-Err.place
    (subst (λ (l : List Row). IsGap c.args.word l c.in-Err.place) c.deref.ensures.value
    c.in-Err.ensures.gap))
