use Rattle.domain_desk.proofs.Keeping.{named_so, owns_weak, kept_weak}
use Rattle.domain_desk.proofs.desk.DomainDesk.copy_weak.Goals as goal

pub copy_weakly-requires-clause-owned : goal.copy_weakly-requires-clause-owned
copy_weakly-requires-clause-owned c =
    owns_weak _ _ c.self.view_is c.requires.kept c.args.name.now c.weak_slot-slot.result
    c.of.result.slot (named_so _ _ c.self.view_is c.requires.kept _ _ c.weak_slot-slot.ensures) c.of.ensures

pub returns-clause-kept : goal.returns-clause-kept
returns-clause-kept c =
    kept_weak _ _ c.self.view_is c.requires.kept c.copy_weakly.new.seat c.bind.new.self
    (c.in-Ok.ensures.ready, c.in-Ok.ensures.notes) _ _ _ _ c.in-Ok.ensures.gains c.slot.ensures c.of-hand.ensures
    c.in-Ok-bind.ensures.more
