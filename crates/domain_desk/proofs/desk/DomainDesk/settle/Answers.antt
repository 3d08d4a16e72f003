use Rattle.domain_desk.proofs.Keeping.{settle_kept}
use Rattle.domain_desk.proofs.desk.DomainDesk.settle.Goals as goal

pub returns-clause-kept : goal.returns-clause-kept
returns-clause-kept g c =
    settle_kept _ _ c.self.view_is c.requires.kept c.settle_all.new.seat
    (c.settle_all.ensures.ready, c.settle_all.ensures.notes) c.settle_all.ensures.tidies
