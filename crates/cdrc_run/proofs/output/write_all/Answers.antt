use Rattle.std.proofs.Common.{arith, length-drop, ℕ}
use Rattle.words_work.proofs.Below.lane_gate_Known.{takes_on}
use Rattle.cdrc_run.proofs.output.write_all.Goals as goal

pub loop-taken-preserved : goal.loop-taken-preserved
loop-taken-preserved g c = record {
  within = grind (arith, length-drop {A = ℕ});
  took = takes_on _ _ _ _ _ _ c.loop-taken.invariant.took c.in-Ok.ensures.took;
  faults = omega arith;
}
