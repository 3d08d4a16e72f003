use Rattle.std.proofs.Common.{rules}
use Rattle.line_words.specs.Lines.{numbered_lines}
use Rattle.line_words.specs.Words.{texts_of}
use Rattle.line_machine.proofs.Leads.{begins, skips, goes_on, stops, comes_to_an_end}
use Rattle.line_machine.proofs.run.run_lines.Goals as goal

-- src/run.rt:28:5
pub loop-line-init : goal.loop-line-init
loop-line-init g c =
    begins g.M.LineMachine.takes g.M.LineMachine.refuses g.M.LineMachine.ends c.args.machine.now
    (numbered_lines c.args.text.now) c.into_iter-line-iterator.result c.new-written.result.items
    (search rules) (search rules)

-- src/run.rt:28:5
pub loop-line-preserved-then-is_blank : goal.loop-line-preserved-then-is_blank
loop-line-preserved-then-is_blank g c =
    skips g.M.LineMachine.takes g.M.LineMachine.refuses g.M.LineMachine.ends c.args.machine.now
    (numbered_lines c.args.text.now) c.loop-line.written.items c.loop-line.machine c.loop-line.line-iterator
    c.next.new.self (c.in-Some.line.number, c.in-Some.line.bytes.now) (texts_of c.deref.result.now)
    (search rules) (search rules) (search rules) c.loop-line.invariant

-- src/run.rt:35:13
pub returns-in-Some-2 : goal.returns-in-Some-2
returns-in-Some-2 g c =
    stops g.M.LineMachine.takes g.M.LineMachine.refuses g.M.LineMachine.ends c.args.machine.now
    (numbered_lines c.args.text.now) c.loop-line.written.items c.take.new.text.items c.push_refused.new.text.items c.loop-line.machine
    c.loop-line.line-iterator c.next.new.self (c.in-Some.line.number, c.in-Some.line.bytes.now)
    (texts_of c.deref-in-loop-line.result.now) c.in-Some-2.reason
    (search rules) (search rules) (search rules) (c.take.ensures.refused c.in-Some-2.reason (search rules))
    (search rules) c.loop-line.invariant c.take.new.self
    (c.take.ensures.stays c.in-Some-2.reason (search rules))

-- src/run.rt:28:5
pub loop-line-preserved : goal.loop-line-preserved
loop-line-preserved g c =
    goes_on g.M.LineMachine.takes g.M.LineMachine.refuses g.M.LineMachine.ends c.args.machine.now
    (numbered_lines c.args.text.now) c.loop-line.written.items c.take.new.text.items c.loop-line.machine
    c.take.new.self c.loop-line.line-iterator c.next.new.self (c.in-Some.line.number, c.in-Some.line.bytes.now)
    (texts_of c.deref.result.now) (search rules) (search rules) (search rules) (search rules) c.loop-line.invariant

-- src/run.rt:19:1
pub returns : goal.returns
returns g c =
    comes_to_an_end g.M.LineMachine.takes g.M.LineMachine.refuses g.M.LineMachine.ends c.args.machine.now
    (numbered_lines c.args.text.now) c.loop-line.written.items c.end.new.text.items c.loop-line.machine
    c.in_ok-refused.refused c.loop-line.line-iterator (search rules)
    (c.end.ensures c.in_ok-refused.refused (search rules)) c.loop-line.invariant
