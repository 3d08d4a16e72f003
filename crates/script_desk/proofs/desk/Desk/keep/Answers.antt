use Rattle.script_desk.specs.declared.handle.Handle.TheVariants.{Strong}
use Rattle.script_desk.proofs.Sums.{has_more}
use Rattle.script_desk.proofs.Gaining.{gains_more}
use Rattle.script_desk.proofs.Naming.{has_known_if, kept_bound, kept_undone}
use Rattle.script_desk.proofs.desk.Desk.keep.Goals as goal

pub keep_snapshot-requires-clause-has : goal.keep_snapshot-requires-clause-has
keep_snapshot-requires-clause-has c = has_known_if c.self.inside.heap c.self.inside.names c.args.name.now c.self.invariant.holds

pub bind-requires-clause-has : goal.bind-requires-clause-has
bind-requires-clause-has c =
    has_more c.self.inside.heap c.keep_snapshot.new.heap (Strong c.in_ok-hand.hand)
    (gains_more c.self.inside.heap c.keep_snapshot.new.heap c.in_ok-hand.ensures.gains.0 c.in_ok-hand.hand c.in_ok-hand.ensures.gains.3)

pub invariant_of-self-in_err-bind : goal.invariant_of-self-in_err-bind
invariant_of-self-in_err-bind c =
    kept_undone _ _ _ _ _ c.self.invariant c.keep_snapshot.new.heap (Strong c.in_ok-hand.hand)
    (gains_more c.self.inside.heap c.keep_snapshot.new.heap c.in_ok-hand.ensures.gains.0 c.in_ok-hand.hand c.in_ok-hand.ensures.gains.3)
    c.bind.new.heap c.bind.new.names c.in_err-bind.ensures.err c.in_err-bind.ensures.gave

pub invariant_of-self-2 : goal.invariant_of-self-2
invariant_of-self-2 c =
    kept_bound _ _ _ _ _ c.self.invariant c.keep_snapshot.new.heap (Strong c.in_ok-hand.hand)
    (gains_more c.self.inside.heap c.keep_snapshot.new.heap c.in_ok-hand.ensures.gains.0 c.in_ok-hand.hand c.in_ok-hand.ensures.gains.3)
    c.bind.new.heap c.bind.new.names c.in_ok-bind.ensures.heap c.in_ok-bind.ensures.more
