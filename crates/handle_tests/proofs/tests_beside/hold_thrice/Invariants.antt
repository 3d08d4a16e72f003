use Rattle.control_word.specs.core_events.Steps.{HasRoom}
use Rattle.control_word.specs.Resting.{IsAtRest}
use Rattle.handle_tests.specs.Plays.{Plays}
use Rattle.handle_tests.proofs.tests_beside.hold_thrice.Given as goal

abbrev pub invariant-loop-look : goal.invariant-loop-look
invariant-loop-look l = record {
  plays : Plays l.domain l.player.seat l.player.strongs.items l.player.weaks.items;
  rest : IsAtRest l.domain l.seat;
  room : HasRoom l.seat.view.core;
}
