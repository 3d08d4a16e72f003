use Rattle.std.proofs.Common.{◌≡◌}
use Rattle.handle_tests.specs.Plays.{Plays}
use Rattle.handle_tests.proofs.playing.run.Given as goal

abbrev pub invariant-loop-index : goal.invariant-loop-index
invariant-loop-index g l = record {
  plays : Plays l.domain l.player.seat l.player.strongs.items l.player.weaks.items;
  notes : l.player.seat.view.core.notes ≡ l.fn.player.seat.view.core.notes;
}
