use Rattle.std.proofs.Common.{◌∙◌, ap, ℕ, List}
use Rattle.script_desk.specs.declared.handle.Handle.TheVariants.{Strong}
use Rattle.script_desk.proofs.Sums.{has_more}
use Rattle.script_desk.proofs.Gaining.{makes_more}
use Rattle.script_desk.proofs.Naming.{kept_bound, kept_undone}
use Rattle.script_desk.proofs.Told.{kept_made, makes_told, named}
use Rattle.script_desk.proofs.desk.Desk.make.Goals as goal

pub bind-requires-clause-has : goal.bind-requires-clause-has
bind-requires-clause-has c =
    has_more c.self.inside.heap c.make.new.self (Strong c.in-Ok.hand)
    (makes_more c.self.inside.heap c.make.new.self c.in-Ok.hand c.payload_of.result c.in-Ok.ensures.made)

pub invariant_of-self-in_err-bind : goal.invariant_of-self-in_err-bind
invariant_of-self-in_err-bind c =
    kept_undone _ _ _ _ _ c.self.invariant c.make.new.self (Strong c.in-Ok.hand)
    (makes_more c.self.inside.heap c.make.new.self c.in-Ok.hand c.payload_of.result c.in-Ok.ensures.made)
    c.bind.new.heap c.bind.new.names c.in_err-bind.ensures.err c.in_err-bind.ensures.gave

pub invariant_of-self-2 : goal.invariant_of-self-2
invariant_of-self-2 c =
    kept_made _ _ _ _ _ c.slot-slot.result.0 _
    (kept_bound _ _ _ _ _ c.self.invariant c.make.new.self (Strong c.in-Ok.hand)
    (makes_more c.self.inside.heap c.make.new.self c.in-Ok.hand c.payload_of.result c.in-Ok.ensures.made)
    c.bind.new.heap c.bind.new.names c.in_ok-bind.ensures.heap c.in_ok-bind.ensures.more)

pub returns : goal.returns
returns c =
    makes_told _ _ _ _ _ c.self.view_is _ _ c.self.invariant c.args.name.now c.args.weight c.payload_of.result c.in-Ok.hand c.make.new.self
    c.bind.new.heap c.bind.new.names c.slot-slot.result c.in-Some.makes _ c.in-Ok.ensures.made c.payload_of.ensures c.in_ok-bind.ensures.heap
    c.in_ok-bind.ensures.binds c.slot-slot.ensures c.in-Some.ensures.1
    (ap (λ (name : List ℕ). named c.self.inside.makes name) (c.in_ok-from_str.ensures.ok ∙ c.as_str.ensures.text))
