use Rattle.script_desk.specs.declared.handle.Handle.TheVariants.{Weak}
use Rattle.script_desk.proofs.Sums.{has_more}
use Rattle.script_desk.proofs.Gaining.{weakly_gains_more}
use Rattle.script_desk.proofs.Naming.{kept_bound, kept_undone}
use Rattle.script_desk.proofs.desk.Desk.copy_weak.Goals as goal

pub bind-requires-clause-has : goal.bind-requires-clause-has
bind-requires-clause-has c = has_more _ c.copy_weak.new.self (Weak c.in_ok-hand.hand) (weakly_gains_more _ _ _ _ c.in_ok-hand.ensures.gains)

pub invariant_of-self-in_err-bind : goal.invariant_of-self-in_err-bind
invariant_of-self-in_err-bind c =
    kept_undone _ _ _ _ _ c.self.invariant c.copy_weak.new.self (Weak c.in_ok-hand.hand) (weakly_gains_more _ _ _ _ c.in_ok-hand.ensures.gains)
    c.bind.new.heap c.bind.new.names c.in_err-bind.ensures.err c.in_err-bind.ensures.gave

pub invariant_of-self-2 : goal.invariant_of-self-2
invariant_of-self-2 c =
    kept_bound _ _ _ _ _ c.self.invariant c.copy_weak.new.self (Weak c.in_ok-hand.hand) (weakly_gains_more _ _ _ _ c.in_ok-hand.ensures.gains)
    c.bind.new.heap c.bind.new.names c.in_ok-bind.ensures.heap c.in_ok-bind.ensures.more
