use Rattle.plain_settling.specs.plain_store.Calls.{strong_place}
use Rattle.script_desk.proofs.Told.{loads_told}
use Rattle.script_desk.specs.declared.handle.Handle.TheVariants.{Strong}
use Rattle.script_desk.proofs.Sums.{has_more}
use Rattle.script_desk.proofs.Gaining.{loads_more}
use Rattle.script_desk.proofs.Naming.{kept_bound, kept_undone}
use Rattle.script_desk.proofs.desk.Desk.load_strong.Goals as goal

pub bind-requires-clause-has : goal.bind-requires-clause-has
bind-requires-clause-has c =
    has_more c.self.inside.heap c.load.new.self (Strong c.in-Some.hand)
    ((loads_more c.self.inside.heap c.load.new.self (strong_place c.args.at) c.in-Some.hand (rw c.in-Some.is at c.in_ok-hand.ensures.loads)).0)

pub invariant_of-self-in_err-bind : goal.invariant_of-self-in_err-bind
invariant_of-self-in_err-bind c =
    kept_undone _ _ _ _ _ c.self.invariant c.load.new.self (Strong c.in-Some.hand)
    ((loads_more c.self.inside.heap c.load.new.self (strong_place c.args.at) c.in-Some.hand (rw c.in-Some.is at c.in_ok-hand.ensures.loads)).0)
    c.bind.new.heap c.bind.new.names c.in_err-bind.ensures.err c.in_err-bind.ensures.gave

pub invariant_of-self-2 : goal.invariant_of-self-2
invariant_of-self-2 c =
    kept_bound _ _ _ _ _ c.self.invariant c.load.new.self (Strong c.in-Some.hand)
    ((loads_more c.self.inside.heap c.load.new.self (strong_place c.args.at) c.in-Some.hand (rw c.in-Some.is at c.in_ok-hand.ensures.loads)).0)
    c.bind.new.heap c.bind.new.names c.in_ok-bind.ensures.heap c.in_ok-bind.ensures.more

pub returns : goal.returns
returns c =
    loads_told _ _ _ _ _ c.self.view_is (strong_place c.args.at) c.args.new.now c.in-Some.hand c.load.new.self c.bind.new.heap c.bind.new.names
    (rw c.in-Some.is at c.in_ok-hand.ensures.loads) c.in_ok-bind.ensures.heap c.in_ok-bind.ensures.binds
