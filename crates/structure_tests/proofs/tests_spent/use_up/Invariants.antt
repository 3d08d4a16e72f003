use Rattle.std.specs.Prelude.{◌<◌}
use Rattle.part_calls.specs.plain_state.Lists.{times}
use Rattle.structure_tests.specs.Ready.{IsReady}
use Rattle.structure_tests.proofs.tests_spent.use_up.Given as goal

abbrev pub invariant-loop-add : goal.invariant-loop-add
invariant-loop-add l = record {
  ready : IsReady l.domain l.seat;
  owned : 0 < times l.item.slot l.seat.view.core.owned;
}
