use Rattle.cell_making.proofs.Chained.{Chains}
use Rattle.cell_making.proofs.making.make_parts.Given as goal

abbrev pub invariant-loop-made : goal.invariant-loop-made
invariant-loop-made l = Chains l.domain l.text l.made l.front.slot l.fn.seat l.seat
