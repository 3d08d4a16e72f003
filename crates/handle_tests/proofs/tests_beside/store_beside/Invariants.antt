use Rattle.handle_tests.specs.Plays.{Plays}
use Rattle.handle_tests.proofs.tests_beside.store_beside.Given as goal

abbrev pub invariant-loop-turn : goal.invariant-loop-turn
invariant-loop-turn l =
    Plays l.domain l.player.seat l.player.strongs.items l.player.weaks.items
