use Rattle.epoch_players.specs.Plays.{Plays}
use Rattle.epoch_thread_tests.proofs.threads.play_all.Given as goal

abbrev pub invariant-loop-act : goal.invariant-loop-act
invariant-loop-act l =
    Plays l.domain l.player.seat l.player.strongs.items l.player.seen.items l.player.inside
