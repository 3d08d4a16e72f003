use Rattle.line_words.specs.Lines.{numbered_lines}
use Rattle.line_machine.proofs.Leads.{Leads}
use Rattle.line_machine.proofs.run.run_lines.Given as goal

abbrev pub invariant-loop-line : goal.invariant-loop-line
invariant-loop-line g l =
    Leads g.M.LineMachine.takes g.M.LineMachine.refuses g.M.LineMachine.ends
    l.initial.machine (numbered_lines l.text) l.written.items l.machine l.line-iterator
