use Rattle.domain_desk.proofs.Placing.{open_here, placed_so, strong_kind}
use Rattle.domain_desk.proofs.Snapping.{taken_kept}
use Rattle.domain_desk.proofs.desk.DomainDesk.snap.Goals as goal

pub snap-requires-clause-opened : goal.snap-requires-clause-opened
snap-requires-clause-opened c =
    open_here _ _ c.self.view_is c.requires.kept c.args.place.now c.place_of-at.result
    c.requires.range c.requires.needs (placed_so _ _ c.self.view_is _ _ c.place_of-at.ensures)

pub returns-clause-kept : goal.returns-clause-kept
returns-clause-kept c =
    taken_kept _ _ c.self.view_is c.requires.kept c.place_of-at.result c.in-Some.slot
    c.in-Some.counted c.of-hand.result c.snap.new.seat c.snap.new.words c.bind.new.self
    c.in-Ok.ensures.ready c.in-Ok.ensures.noted
    (strong_kind _ c.args.place.now c.place_of-at.result c.requires.strong c.place_of-at.ensures)
    (rw c.in-Some.is at c.in-Ok.ensures.takes) c.of-hand.ensures c.in-Ok-bind.ensures.more
