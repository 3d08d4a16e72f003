use Rattle.script_desk.proofs.Placing.{kept_replaced}
use Rattle.script_desk.proofs.desk.Desk.replace.Goals as goal

pub invariant_of-self : goal.invariant_of-self
invariant_of-self c =
    kept_replaced _ _ _ _ _ _ c.self.invariant c.args.self.now c.self.view_is c.in-Strong.at c.slot_if_some-expected.result c.hand_if_some-hand.result
    c.args.new.now c.replace.new.self c.unbind_if_some.new.self c.requires.given c.hand_if_some-hand.ensures.is
    (rw c.in-Ok-true.field-0-test at c.in-Ok-true.ensures.tries) c.unbind_if_some.ensures.binds c.unbind_if_some.ensures.fewer
