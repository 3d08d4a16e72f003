use Rattle.domain_desk.proofs.Loading.{loaded_kept}
use Rattle.domain_desk.proofs.desk.DomainDesk.load_strong.Goals as goal

pub returns-clause-kept : goal.returns-clause-kept
returns-clause-kept c =
    loaded_kept _ _ c.self.view_is c.requires.kept c.args.at c.args.new.now c.load.new.seat
    (c.load.ensures.ready, c.load.ensures.notes) c.bind.new.self c.in-Some.slot c.of-hand.result c.of-hand.ensures
    (rw c.in-Some.is at c.in-Ok.ensures.loads c.requires.strong) c.in-Ok-bind.ensures.more
