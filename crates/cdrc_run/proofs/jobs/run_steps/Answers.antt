use Rattle.std.proofs.Common.{List, ℕ, subst}
use Rattle.std.proofs.lemmas.Result.{err_from_is_err_and}
use Rattle.cdrc_scripts.specs.protocol_pairs.Shares.{FitsItsPart}
use Rattle.words_work.specs.queue_protocol.Nodes.{IsNodePayload}
use Rattle.words_work.specs.directory_law.Bytes.{IsPiece}
use Rattle.cdrc_steps.specs.Meaning.{IsSteps}
use Rattle.cdrc_run.proofs.Written.{steps_output, steps_why}
use Rattle.cdrc_run.proofs.jobs.run_steps.Goals as goal

pub returns-in_err-content-clause-why : goal.returns-in_err-content-clause-why
returns-in_err-content-clause-why g c =
    let p = err_from_is_err_and c.from_residual.result c.from_residual.ensures.1 in
    rw (p.1, p.2)
    (steps_why (FitsItsPart IsNodePayload IsPiece) (g.F.Files.told c.args.files.now) c.args.name.now _
    c.in_err-content.field-0.0 c.in_err-content.ensures.why)

pub returns-clause-output : goal.returns-clause-output
returns-clause-output g c =
    let content = c.in_ok-content.content.items in let done = c.in_ok-text.field-0 in
    steps_output (g.F.Files.told c.args.files.now) c.args.name.now content done.text.items done.refused
    c.in_ok-content.ensures.content c.in_ok-content.ensures.within
    (subst (λ (t : List ℕ). IsSteps t done.text.items done.refused) c.deref.ensures.value
    c.in_ok-text.ensures)
