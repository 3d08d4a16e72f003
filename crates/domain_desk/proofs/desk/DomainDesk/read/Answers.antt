use Rattle.domain_desk.proofs.Placing.{known_so, holds_here}
use Rattle.domain_desk.proofs.Told.{read_told, told_kept}
use Rattle.domain_desk.proofs.desk.DomainDesk.read.Goals as goal

pub read-requires-clause-holds : goal.read-requires-clause-holds
read-requires-clause-holds c =
    holds_here _ _ c.self.view_is c.requires.kept c.args.name.now c.slot-slot.result
    (known_so _ _ c.self.view_is _ _ c.slot-slot.ensures)

pub returns-clause-acts : goal.returns-clause-acts
returns-clause-acts c =
    read_told _ _ c.self.view_is c.requires.kept c.read.new.seat (c.read.ensures.ready, c.read.ensures.notes)
    c.read.ensures.same c.args.name.now c.slot-slot.result (known_so _ _ c.self.view_is _ _ c.slot-slot.ensures) c.args.word
    c.read.result c.read.ensures.word

pub returns-clause-kept : goal.returns-clause-kept
returns-clause-kept c =
    told_kept _ _ c.self.view_is c.requires.kept c.read.new.seat (c.read.ensures.ready, c.read.ensures.notes)
    c.read.ensures.same
