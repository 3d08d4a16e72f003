use Rattle.epoch_players.specs.Plays.{Plays}
use Rattle.epoch_thread_tests.proofs.beside.read_from.Given as goal

abbrev pub invariant-loop-index : goal.invariant-loop-index
invariant-loop-index l =
    Plays l.domain l.player.seat l.player.strongs.items l.player.seen.items l.player.inside
