use Rattle.std.proofs.Common.{◌≡◌, length}
use Rattle.std.specs.Map.{values_of}
use Rattle.plain_audit.specs.plain_state.State.{seat_at}
use Rattle.script_desk.specs.Holding.{HoldsFor}
use Rattle.script_desk.proofs.Closing.{with_hands}
use Rattle.script_desk.proofs.desk.Desk.close.Given as goal

abbrev pub invariant-loop-handle : goal.invariant-loop-handle
invariant-loop-handle l = record {
  holds : HoldsFor l.heap (values_of l.names);
  rest : l.heap ≡ with_hands l.fn.self.plain (seat_at l.heap 0);
}

abbrev pub decreases-loop-handle : goal.decreases-loop-handle
decreases-loop-handle l = length l.names
