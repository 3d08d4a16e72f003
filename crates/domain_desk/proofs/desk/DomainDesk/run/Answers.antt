use Rattle.domain_desk.specs.Desks.{core_of, desk_of}
use Rattle.domain_desk.proofs.Keeping.{begun_runs}
use Rattle.domain_desk.proofs.Shown.{shown_then}
use Rattle.domain_desk.proofs.desk.DomainDesk.run.Goals as goal

pub returns-clause-runs : goal.returns-clause-runs
returns-clause-runs g c =
    begun_runs (desk_of c.args.self.now) c.args.command.now c.in_ok-said.said
    (desk_of c.act.new.self) (desk_of c.settle.new.self) c.in_ok-said.ensures.begins
    c.settle.ensures.tidied c.settle.ensures.settled

pub returns-clause-shows : goal.returns-clause-shows
returns-clause-shows g c =
    shown_then c.args.command.now c.in_ok-said.said (core_of c.args.self.now)
    (core_of c.act.new.self) (core_of c.settle.new.self) c.in_ok-said.ensures.shows
    c.settle.ensures.trail
