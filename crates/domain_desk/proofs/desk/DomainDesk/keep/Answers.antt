use Rattle.domain_desk.proofs.Keeping.{kept_strong}
use Rattle.domain_desk.proofs.Snapping.{keep_told, snapshot_held}
use Rattle.domain_desk.proofs.desk.DomainDesk.keep.Goals as goal

pub keep-requires-clause-held : goal.keep-requires-clause-held
keep-requires-clause-held c =
    snapshot_held _ _ c.self.view_is c.requires.kept c.args.name.now c.slot-slot.result
    c.slot-slot.ensures c.requires.bound

pub returns-clause-acts : goal.returns-clause-acts
returns-clause-acts c =
    keep_told _ _ c.self.view_is c.requires.kept c.args.name.now c.slot-slot.result
    c.slot-slot.ensures c.requires.bound c.args.new.now c.keep.new.seat c.bind.new.self _ _ _
    c.in-Ok.ensures.gains c.slot.ensures c.of-hand.ensures c.in-Ok-bind.ensures.binds

pub returns-clause-kept : goal.returns-clause-kept
returns-clause-kept c =
    kept_strong _ _ c.self.view_is c.requires.kept c.keep.new.seat c.bind.new.self
    (c.in-Ok.ensures.ready, c.in-Ok.ensures.notes) _ _ _ _ c.in-Ok.ensures.gains c.slot.ensures
    c.of-hand.ensures c.in-Ok-bind.ensures.more
