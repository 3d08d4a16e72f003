use Rattle.epoch_players.specs.Plays.{Plays}
use Rattle.epoch_players.proofs.playing.run.Given as goal

abbrev pub invariant-loop-index : goal.invariant-loop-index
invariant-loop-index l =
    Plays l.domain l.first.seat l.first.strongs.items l.first.seen.items l.first.inside
    × Plays l.domain l.second.seat l.second.strongs.items l.second.seen.items l.second.inside
