use Rattle.record_making.proofs.Chained.{Chains}
use Rattle.record_making.proofs.making.make_parts.Given as goal

abbrev pub invariant-loop-made : goal.invariant-loop-made
invariant-loop-made g l =
    Chains l.domain g.P.Part.seen g.P.Part.with_seen l.text l.made l.front.slot l.fn.seat l.seat
