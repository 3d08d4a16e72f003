use Rattle.std.proofs.Common.{subst}
use Rattle.std.specs.Prelude.{IfSome}
use Rattle.std.proofs.lemmas.List.Elements.{All-pop}
use Rattle.example_threads.specs.Free.{IsFree}
use Rattle.example_threads.proofs.domains.leave_last.Goals as goal

pub leave-requires-clause-rests : goal.leave-requires-clause-rests
leave-requires-clause-rests g c =
    let last = (All-pop (λ d. IsFree c.args.domain.now d.0) c.args.done.now.items
    c.pop.new.self.items c.pop.result c.pop.ensures.items c.requires.done).1 in (
      c.requires.root.0.rest,
      (subst (λ r. IfSome r (λ d. IsFree c.args.domain.now d.0)) c.in-Some.is last).rest,
    )

pub leave-requires-clause-none : goal.leave-requires-clause-none
leave-requires-clause-none g c =
    let last = (All-pop (λ d. IsFree c.args.domain.now d.0) c.args.done.now.items
    c.pop.new.self.items c.pop.result c.pop.ensures.items c.requires.done).1 in (
      c.requires.root.0.none,
      (subst (λ r. IfSome r (λ d. IsFree c.args.domain.now d.0)) c.in-Some.is last).none,
    )

pub returns-in-Some-clause-root : goal.returns-in-Some-clause-root
returns-in-Some-clause-root g c =
    let left = c.leave.ensures in
    (record { rest = left.rest; none = left.none; room = left.room }, left.first)

pub returns-in-Some-clause-done : goal.returns-in-Some-clause-done
returns-in-Some-clause-done g c =
    (All-pop (λ d. IsFree c.args.domain.now d.0) c.args.done.now.items c.pop.new.self.items
    c.pop.result c.pop.ensures.items c.requires.done).0
