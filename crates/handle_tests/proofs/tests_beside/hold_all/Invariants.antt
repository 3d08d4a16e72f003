use Rattle.std.specs.Prelude.{All}
use Rattle.control_word.specs.acquire_retire.Calls.{IsOf}
use Rattle.handle_tests.specs.Plays.{IsFree, Plays}
use Rattle.handle_tests.proofs.tests_beside.hold_all.Given as goal

abbrev pub invariant-loop-seat : goal.invariant-loop-seat
invariant-loop-seat l = record {
  plays : Plays l.domain l.player.seat l.player.strongs.items l.player.weaks.items;
  seats : All (IsFree l.domain) l.seats.items;
  held : All (IsOf l.domain) l.held.items;
}
