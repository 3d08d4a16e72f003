-- What keeps the numbers of a seat in their ranges. Every state that events reach has it.
use Rattle.std.specs.Prelude.{ℕ, ◌≡◌, ◌+◌, ◌<◌, ◌≤◌, ◌^◌, length, ◌-◌}
use Rattle.core_functions.specs.plain_state.declared.slot.SlotId.{SlotId}
use Rattle.core_functions.specs.core_events.declared.act.Act.{Act}
use Rattle.core_functions.specs.core_events.declared.act.Act.TheVariants as act
use Rattle.core_functions.specs.core_events.declared.shape.Shape.{Shape}
use Rattle.core_functions.specs.core_events.declared.view.CoreView.{CoreView}
use Rattle.core_functions.specs.core_events.declared.view.Phase.TheVariants as phase
use Rattle.core_functions.specs.core_events.Views.{allowed_makes}

-- the seat has room for what it has retired and owes, its makes and the words that its scan has
-- read can be counted, and it has an add for the slot that it fills
pub record IsFit (v : CoreView) : Type 0 where
  pub room : length v.retired + length v.owed ≤ v.room
  pub makes : allowed_makes v < 2 ^ 64
  pub reads : length v.seen < 2 ^ 32 - 1
  pub can_start : (s : SlotId) → v.phase ≡ phase.Blank s → v.adds < v.quota.adds

-- an act on a place finds null there, or a slot of the domain
abbrev pub IsWordFor : Shape → Act → ℕ → Type 0
IsWordFor z (act.Look p) w = w ≤ z.slots
IsWordFor z (act.Check j p) w = w ≤ z.slots
IsWordFor z (act.Swap p new) w = w ≤ z.slots
IsWordFor z (act.Cas p old new) w = w ≤ z.slots
IsWordFor z a w = Unit {0}
