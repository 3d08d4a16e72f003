-- What a seat is in the middle of once it took something out of a place.
use Rattle.std.specs.Prelude.{Option, Some, None}
use Rattle.epoch_rule.specs.epoch_core.plain_state.declared.slot.SlotId.{SlotId}
use Rattle.epoch_rule.specs.epoch_core.declared.view.EpochPhase.{EpochPhase}
use Rattle.epoch_rule.specs.epoch_core.declared.view.EpochPhase.TheVariants as phase

abbrev pub phase_taking : Option SlotId → EpochPhase
phase_taking None = phase.Idle
phase_taking (Some s) = phase.Undated s
