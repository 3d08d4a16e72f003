use Rattle.domain_desk.proofs.Loading.{weakly_loaded_kept}
use Rattle.domain_desk.proofs.desk.DomainDesk.load_weak.Goals as goal

pub returns-clause-kept : goal.returns-clause-kept
returns-clause-kept c =
    weakly_loaded_kept _ _ c.self.view_is c.requires.kept c.args.at c.args.new.now c.load.new.seat
    (c.load.ensures.ready, c.load.ensures.notes) c.bind.new.self c.in-Some.slot c.of-hand.result c.of-hand.ensures
    (rw c.in-Some.is at c.in-Ok.ensures.weakly c.requires.weak) c.in-Ok-bind.ensures.more
