use Rattle.std.proofs.Common.{subst}
use Rattle.std.specs.Map.{values_of}
use Rattle.script_desk.specs.Desks.{Names}
use Rattle.script_desk.specs.Holding.{HoldsFor}
use Rattle.script_desk.proofs.Closing.{has_first, holds_rest, hands_given, hands_last}
use Rattle.script_desk.proofs.desk.Desk.close.Goals as goal

pub give_up-requires : goal.give_up-requires
give_up-requires c = has_first c.loop-handle.heap _ _ c.in-Some.handle c.loop-handle.invariant.holds c.in-Some.ensures.fewer

pub loop-handle-preserved : goal.loop-handle-preserved
loop-handle-preserved c = record {
  holds = holds_rest c.loop-handle.heap c.give_up.new.heap _ _ c.in-Some.handle c.loop-handle.invariant.holds c.in-Some.ensures.fewer c.give_up.ensures;
  rest = hands_given c.args.self.plain c.loop-handle.heap c.give_up.new.heap c.in-Some.handle c.loop-handle.invariant.rest c.give_up.ensures;
}

pub returns : goal.returns
returns c =
    hands_last c.args.self.plain c.loop-handle.heap
    (subst (λ (ns : Names). HoldsFor c.loop-handle.heap (values_of ns)) c.in_default.ensures.none c.loop-handle.invariant.holds) c.loop-handle.invariant.rest
