use Rattle.std.proofs.Common.{subst}
use Rattle.std.specs.Prelude.{IfSome}
use Rattle.std.proofs.lemmas.List.Elements.{All-pop}
use Rattle.structure_tests.specs.declared.jobs.Job.{Job}
use Rattle.structure_tests.specs.Ready.{IsNew}
use Rattle.structure_tests.proofs.Opened.{all_pushed}
use Rattle.structure_tests.proofs.jobs.give_job.Goals as goal

pub returns-in_ok-map_err-clause-jobs : goal.returns-in_ok-map_err-clause-jobs
returns-in_ok-map_err-clause-jobs c =
    let new = IsNew c.args.domain.now in
    let last = (All-pop new c.args.seats.now.items c.pop.new.self.items c.pop.result
    c.pop.ensures.items c.requires.seats).1 in
    all_pushed (λ (job : Job). new job.seat) _ c.args.jobs.now.items c.push.new.self.items
    (record { seat = c.in-Some.seat; role = c.args.role }) c.push.ensures.items c.requires.jobs
    (subst (λ r. IfSome r new) c.in-Some.is last)
