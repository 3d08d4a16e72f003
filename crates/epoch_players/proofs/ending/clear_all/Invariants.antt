use Rattle.epoch_players.specs.Plays.{Plays}
use Rattle.epoch_players.proofs.ending.clear_all.Given as goal

abbrev pub invariant-loop-cell : goal.invariant-loop-cell
invariant-loop-cell l =
    Plays l.domain l.player.seat l.player.strongs.items l.player.seen.items l.player.inside
