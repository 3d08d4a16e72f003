use Rattle.epoch_players.specs.Plays.{Plays}
use Rattle.epoch_players.proofs.ending.give_back.Given as goal

abbrev pub invariant-loop-reference : goal.invariant-loop-reference
invariant-loop-reference l =
    Plays l.domain l.player.seat l.player.strongs.items l.player.seen.items l.player.inside
