-- The nodes of a queue that live.
use Rattle.std.specs.Prelude.{◌≡◌, Some}
use Rattle.plain_audit.specs.plain_state.declared.slot.SlotId.{SlotId}
use Rattle.plain_audit.specs.plain_state.declared.slot.Stage.TheVariants.{Live}
use Rattle.plain_audit.specs.plain_state.State.{Plain, no_payload, slot_at, stage_at}
pub use Rattle.record_counts.specs.Records.{IsAllReached}

-- the slot lives, and has a node's payload
abbrev pub IsLiveNode : Plain → SlotId → Type 0
IsLiveNode p s = (stage_at p s ≡ Live) × ((slot_at p s).payload ≡ no_payload)

abbrev pub HasNoNode : Plain → Type 0
HasNoNode p = (s : SlotId) → ¬ (IsLiveNode p s)

-- field 1 of no node leads to a node
abbrev pub HasNoNodeAsItem : Plain → Type 0
HasNoNodeAsItem p =
    (s r : SlotId) → IsLiveNode p s → (slot_at p s).second ≡ Some r → ¬ (IsLiveNode p r)
