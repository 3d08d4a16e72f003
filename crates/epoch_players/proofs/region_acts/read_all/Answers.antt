use Rattle.std.proofs.Common.{subst, sym}
use Rattle.epoch_refs.specs.epoch_core.declared.view.EpochView.{EpochView}
use Rattle.epoch_refs.specs.epoch_core.Views.{Holds}
use Rattle.epoch_players.proofs.Called.{by_core}
use Rattle.epoch_players.proofs.Changing.{kept}
use Rattle.epoch_players.proofs.region_acts.read_all.Goals as goal

pub loop-word-init : goal.loop-word-init
loop-word-init c = (
  kept c.e_read-first.ensures.rest (by_core c.e_read-first.ensures.read.told.core) c.requires.plays,
  subst (λ (v : EpochView). Holds v c.args.slot) (sym c.e_read-first.ensures.read.told.core)
      c.requires.held,
)
