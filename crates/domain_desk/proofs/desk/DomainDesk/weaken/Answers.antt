use Rattle.domain_desk.proofs.Keeping.{named_so, owns_strong, kept_weak}
use Rattle.domain_desk.proofs.desk.DomainDesk.weaken.Goals as goal

pub weaken_lone-requires-clause-owned : goal.weaken_lone-requires-clause-owned
weaken_lone-requires-clause-owned c =
    owns_strong _ _ c.self.view_is c.requires.kept c.args.name.now c.strong_slot-slot.result
    c.of.result.slot (named_so _ _ c.self.view_is c.requires.kept _ _ c.strong_slot-slot.ensures) c.of.ensures

pub returns-clause-kept : goal.returns-clause-kept
returns-clause-kept c =
    kept_weak _ _ c.self.view_is c.requires.kept c.weaken_lone.new.seat c.bind.new.self
    (c.in-Ok.ensures.ready, c.in-Ok.ensures.notes) _ _ _ _ c.in-Ok.ensures.gains c.slot.ensures c.of-hand.ensures
    c.in-Ok-bind.ensures.more
