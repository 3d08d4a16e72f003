-- How often the object in a slot was destroyed, and what that says of its lives.
use Rattle.std.specs.Prelude.{ℕ, ◌≡◌, ◌+◌, List, [], ◌∷◌, if◌then◌else◌}
use Rattle.core_promises.specs.Destroyed.{standing}
use Rattle.core_law.specs.plain_state.declared.slot.SlotId.{SlotId}
use Rattle.core_law.specs.plain_state.Lists.{is_slot}
use Rattle.epoch_core.specs.declared.act.EpochAct.{EpochAct}
use Rattle.epoch_core.specs.declared.act.EpochAct.TheVariants as act
use Rattle.epoch_core.specs.declared.act.EpochEvent.{EpochEvent}
use Rattle.epoch_core.specs.declared.shape.EpochShape.{EpochShape}
use Rattle.epoch_core.specs.Runs.{Core}
use Rattle.epoch_core.specs.Good.{stage}
use Rattle.epoch_core.specs.Shows.{lives}

-- 1 for an act that destroys the object in s
abbrev pub destroys : SlotId → EpochAct → ℕ
destroys s (act.Free x) = if is_slot x s then 1 else 0
destroys s a = 0

-- how often these events have destroyed an object in s
abbrev pub destroyed : SlotId → List EpochEvent → ℕ
destroyed s [] = 0
destroyed s (e ∷ es) = destroyed s es + destroys s e.act

-- each life of the slot was destroyed once, but for the one that stands
abbrev pub DestroyedOnce : EpochShape → List EpochEvent → Core → SlotId → Type 0
DestroyedOnce z es c s = destroyed s es + standing (stage z c s) ≡ lives c s
