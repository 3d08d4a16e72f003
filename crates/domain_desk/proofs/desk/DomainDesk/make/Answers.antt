use Rattle.std.proofs.Common.{◌∙◌, ap, ℕ, List}
use Rattle.script_desk.proofs.Told.{named}
use Rattle.domain_desk.proofs.Keeping.{made_kept, made_told}
use Rattle.domain_desk.proofs.desk.DomainDesk.make.Goals as goal

pub returns-clause-makes : goal.returns-clause-makes
returns-clause-makes c =
    made_told _ _ c.self.view_is c.requires.kept c.make.new.seat c.bind.new.self
    (c.in-Ok.ensures.ready, c.in-Ok.ensures.notes) c.payload_of.result c.in-Ok.more.slot c.slot.result c.of-hand.result
    c.in-Ok.ensures.made c.slot.ensures c.of-hand.ensures c.slot-slot.result c.slot-slot.ensures _
    c.in-Some.makes c.args.name.now c.args.weight c.payload_of.ensures c.in-Ok-bind.ensures.binds
    c.in-Some.ensures.1
    (ap (λ (name : List ℕ). named c.self.inside.makes name)
    (c.in_ok-from_str.ensures.ok ∙ c.as_str.ensures.text))

pub returns-clause-kept : goal.returns-clause-kept
returns-clause-kept c =
    made_kept _ _ c.self.view_is c.requires.kept c.make.new.seat c.bind.new.self
    (c.in-Ok.ensures.ready, c.in-Ok.ensures.notes) c.payload_of.result c.in-Ok.more.slot c.slot.result c.of-hand.result
    c.in-Ok.ensures.made c.slot.ensures c.of-hand.ensures c.slot-slot.result c.slot-slot.ensures _
    c.in-Some.makes c.in-Ok-bind.ensures.more
