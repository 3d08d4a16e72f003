use Rattle.std.proofs.Common.{◌≡◌}
use Rattle.handle_tests.specs.Plays.{Plays}
use Rattle.handle_tests.proofs.tests_threads.make_turns.Given as goal

abbrev pub invariant-loop-turn : goal.invariant-loop-turn
invariant-loop-turn g l = record {
  plays : Plays l.domain l.player.seat l.player.strongs.items l.player.weaks.items;
  notes : l.player.seat.view.core.notes ≡ l.fn.player.seat.view.core.notes;
}
