use Rattle.epoch_players.specs.Plays.{Plays}
use Rattle.epoch_players.proofs.ending.flush_all.Given as goal

abbrev pub invariant-loop-flush : goal.invariant-loop-flush
invariant-loop-flush l =
    Plays l.domain l.player.seat l.player.strongs.items l.player.seen.items l.player.inside
