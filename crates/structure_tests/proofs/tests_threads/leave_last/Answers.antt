use Rattle.std.proofs.Common.{subst}
use Rattle.std.specs.Prelude.{IfSome}
use Rattle.std.proofs.lemmas.List.Elements.{All-pop}
use Rattle.structure_tests.specs.declared.jobs.Done.{Done}
use Rattle.structure_tests.specs.Ready.{IsFree}
use Rattle.structure_tests.proofs.tests_threads.leave_last.Goals as goal

pub leave_one-requires-clause-free : goal.leave_one-requires-clause-free
leave_one-requires-clause-free c =
    let free = λ (d : Done). IsFree c.args.domain.now d.seat in
    let last = (All-pop free c.args.done.now.items c.pop.new.self.items c.pop.result
    c.pop.ensures.items c.requires.done).1 in
    subst (λ r. IfSome r free) c.in-Some.is last

pub returns-in-Some-clause-done : goal.returns-in-Some-clause-done
returns-in-Some-clause-done c =
    (All-pop (λ (d : Done). IsFree c.args.domain.now d.seat) c.args.done.now.items
    c.pop.new.self.items c.pop.result c.pop.ensures.items c.requires.done).0
