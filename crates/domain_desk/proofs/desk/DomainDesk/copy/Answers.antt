use Rattle.domain_desk.proofs.Keeping.{named_so, owns_strong, kept_strong}
use Rattle.domain_desk.proofs.desk.DomainDesk.copy.Goals as goal

pub copy-requires-clause-owned : goal.copy-requires-clause-owned
copy-requires-clause-owned c =
    owns_strong _ _ c.self.view_is c.requires.kept c.args.name.now c.strong_slot-slot.result
    c.of.result.slot (named_so _ _ c.self.view_is c.requires.kept _ _ c.strong_slot-slot.ensures) c.of.ensures

pub returns-clause-kept : goal.returns-clause-kept
returns-clause-kept c =
    kept_strong _ _ c.self.view_is c.requires.kept c.copy.new.seat c.bind.new.self
    (c.in-Ok.ensures.ready, c.in-Ok.ensures.notes) _ _ _ _ c.in-Ok.ensures.gains c.slot.ensures c.of-hand.ensures
    c.in-Ok-bind.ensures.more
