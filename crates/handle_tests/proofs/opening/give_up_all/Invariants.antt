use Rattle.std.proofs.Common.{◌≡◌}
use Rattle.handle_tests.specs.Plays.{Plays}
use Rattle.handle_tests.proofs.opening.give_up_all.Given as goal

abbrev pub invariant-loop-reference : goal.invariant-loop-reference
invariant-loop-reference l = record {
  plays : Plays l.domain l.player.seat l.player.strongs.items l.player.weaks.items;
  notes : l.player.seat.view.core.notes ≡ l.fn.player.seat.view.core.notes;
}

abbrev pub invariant-loop-reference-2 : goal.invariant-loop-reference-2
invariant-loop-reference-2 l = record {
  plays : Plays l.domain l.player.seat l.player.strongs.items l.player.weaks.items;
  notes : l.player.seat.view.core.notes ≡ l.fn.player.seat.view.core.notes;
}
