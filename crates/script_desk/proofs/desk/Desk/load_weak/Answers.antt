use Rattle.plain_settling.specs.plain_store.Calls.{weak_place}
use Rattle.script_desk.proofs.Told.{weakly_loads_told}
use Rattle.script_desk.specs.declared.handle.Handle.TheVariants.{Weak}
use Rattle.script_desk.proofs.Sums.{has_more}
use Rattle.script_desk.proofs.Gaining.{weakly_loads_more}
use Rattle.script_desk.proofs.Naming.{kept_bound, kept_undone}
use Rattle.script_desk.proofs.desk.Desk.load_weak.Goals as goal

pub bind-requires-clause-has : goal.bind-requires-clause-has
bind-requires-clause-has c =
    has_more c.self.inside.heap c.load_weak.new.self (Weak c.in-Some.hand)
    (weakly_loads_more c.self.inside.heap c.load_weak.new.self (weak_place c.args.at) c.in-Some.hand (rw c.in-Some.is at c.in_ok-hand.ensures.loads))

pub invariant_of-self-in_err-bind : goal.invariant_of-self-in_err-bind
invariant_of-self-in_err-bind c =
    kept_undone _ _ _ _ _ c.self.invariant c.load_weak.new.self (Weak c.in-Some.hand)
    (weakly_loads_more c.self.inside.heap c.load_weak.new.self (weak_place c.args.at) c.in-Some.hand (rw c.in-Some.is at c.in_ok-hand.ensures.loads))
    c.bind.new.heap c.bind.new.names c.in_err-bind.ensures.err c.in_err-bind.ensures.gave

pub invariant_of-self-2 : goal.invariant_of-self-2
invariant_of-self-2 c =
    kept_bound _ _ _ _ _ c.self.invariant c.load_weak.new.self (Weak c.in-Some.hand)
    (weakly_loads_more c.self.inside.heap c.load_weak.new.self (weak_place c.args.at) c.in-Some.hand (rw c.in-Some.is at c.in_ok-hand.ensures.loads))
    c.bind.new.heap c.bind.new.names c.in_ok-bind.ensures.heap c.in_ok-bind.ensures.more

pub returns : goal.returns
returns c =
    weakly_loads_told _ _ _ _ _ c.self.view_is (weak_place c.args.at) c.args.new.now c.in-Some.hand c.load_weak.new.self c.bind.new.heap c.bind.new.names
    (rw c.in-Some.is at c.in_ok-hand.ensures.loads) c.in_ok-bind.ensures.heap c.in_ok-bind.ensures.binds
