-- How often the object in a slot was destroyed, and what that says of its lives.
use Rattle.std.specs.Prelude.{ℕ, ◌≡◌, ◌+◌, List, [], ◌∷◌, if◌then◌else◌}
use Rattle.core_law.specs.plain_state.declared.slot.SlotId.{SlotId}
use Rattle.core_law.specs.plain_state.declared.slot.Stage.{Stage}
use Rattle.core_law.specs.plain_state.declared.slot.Stage.TheVariants.{Free, Blank, Live, Ended, Husk}
use Rattle.core_law.specs.plain_state.Lists.{is_slot}
use Rattle.core_law.specs.core_events.declared.act.Act.{Act}
use Rattle.core_law.specs.core_events.declared.act.Act.TheVariants as act
use Rattle.core_law.specs.core_events.declared.act.Event.{Event}
use Rattle.core_law.specs.core_events.declared.shape.Shape.{Shape}
use Rattle.core_law.specs.core_events.Counts.{stage}
use Rattle.core_law.specs.core_events.Runs.{Core}
use Rattle.core_law.specs.core_events.Shows.{lives}

-- 1 for an act that destroys the object in s
abbrev pub destroys : SlotId → Act → ℕ
destroys s (act.Destroy x) = if is_slot x s then 1 else 0
destroys s a = 0

-- how often these events have destroyed an object in s
abbrev pub destroyed : SlotId → List Event → ℕ
destroyed s [] = 0
destroyed s (e ∷ es) = destroyed s es + destroys s e.act

-- 1 where the slot has an object that isn't destroyed
abbrev pub standing : Stage → ℕ
standing Free = 0
standing Blank = 0
standing Live = 1
standing Ended = 1
standing Husk = 0

-- each life of the slot was destroyed once, but for the one that stands
abbrev pub DestroyedOnce : Shape → List Event → Core → SlotId → Type 0
DestroyedOnce z es c s = destroyed s es + standing (stage z c s) ≡ lives c s
