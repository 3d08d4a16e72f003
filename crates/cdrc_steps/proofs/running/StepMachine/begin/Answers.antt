use Rattle.std.proofs.Common.{◌≡◌, subst, None, Err}
use Rattle.line_machine.specs.line_words.declared.reason.Reason.TheVariants.{Syntax}
use Rattle.line_machine.specs.line_words.Words.{texts_of}
use Rattle.step_lines.specs.declared.refused.EventRefused.TheVariants as refused
use Rattle.cdrc_steps.specs.Meaning.{Refuses}
use Rattle.cdrc_steps.proofs.running.StepMachine.begin.Goals as goal

pub returns-in-Err-Syntax-clause-refused : goal.returns-in-Err-Syntax-clause-refused
returns-in-Err-Syntax-clause-refused c reason told =
    let why : Syntax ≡ reason = cc in
    let syntax : c.shape_line.result ≡ Err refused.Syntax = cc in
    rw c.requires (subst (Refuses None (texts_of c.args.words.now)) why (c.shape_line.ensures.syntax syntax))
