use Rattle.epoch_refs.specs.Walks.{IsFree}
use Rattle.region_turns.proofs.turns.begin.Given as goal

abbrev pub invariant-loop-cell : goal.invariant-loop-cell
invariant-loop-cell l = IsFree l.domain l.root
