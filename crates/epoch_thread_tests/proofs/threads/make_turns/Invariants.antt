use Rattle.epoch_players.specs.Plays.{Plays}
use Rattle.epoch_thread_tests.proofs.threads.make_turns.Given as goal

abbrev pub invariant-loop-turn : goal.invariant-loop-turn
invariant-loop-turn l =
    Plays l.domain l.player.seat l.player.strongs.items l.player.seen.items l.player.inside
