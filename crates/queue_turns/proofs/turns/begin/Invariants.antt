use Rattle.std.specs.Prelude.{◌<◌}
use Rattle.turn_loops.specs.plain_state.Lists.{times}
use Rattle.queue_turns.specs.Queueing.{IsReadyToQueue}
use Rattle.queue_turns.proofs.turns.begin.Given as goal

abbrev pub invariant-loop-thread : goal.invariant-loop-thread
invariant-loop-thread g l =
    IsReadyToQueue l.domain l.root × (0 < times l.item.slot l.root.view.core.owned)
