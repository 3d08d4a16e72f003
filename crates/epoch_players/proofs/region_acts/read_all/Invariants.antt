use Rattle.epoch_refs.specs.epoch_core.Views.{Holds}
use Rattle.epoch_players.specs.Plays.{Plays}
use Rattle.epoch_players.proofs.region_acts.read_all.Given as goal

abbrev pub invariant-loop-word : goal.invariant-loop-word
invariant-loop-word l =
    Plays l.domain l.player.seat l.player.strongs.items l.player.seen.items l.player.inside
    × Holds l.player.seat.view.core l.slot
