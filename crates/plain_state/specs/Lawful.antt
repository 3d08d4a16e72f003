-- What holds of every plain state that steps reach.
use Rattle.std.specs.Prelude.{◌≡◌, ◌≢◌, ◌⊎◌, ◌<◌, ◌≤◌, ◌+◌, ◌↔◌, true, false, None}
use Rattle.plain_state.specs.declared.slot.Kind.{Kind}
use Rattle.plain_state.specs.declared.slot.Kind.TheVariants.{Strong, Weak, Disposal}
use Rattle.plain_state.specs.declared.slot.SlotId.{SlotId}
use Rattle.plain_state.specs.declared.slot.PlainSlot.{PlainSlot}
use Rattle.plain_state.specs.declared.slot.Stage.TheVariants.{Free, Live, Ended}
use Rattle.plain_state.specs.State.{Plain, slot_at, stage_at}
use Rattle.plain_state.specs.References.{strong_refs, weak_refs, places, deferrals, snapshot_times, dying_times}

-- what covers a snapshot: a place of its kind, or an entry that waits in a deferred list; a weak snapshot is covered
-- by an object that isn't destroyed
abbrev pub Covers : Kind → Plain → SlotId → Type 0
Covers Strong p s = 0 < places Strong p s + deferrals Strong p s
Covers Weak p s = 0 < places Weak p s + deferrals Weak p s
Covers Disposal p s = (stage_at p s ≡ Live) ⊎ (stage_at p s ≡ Ended)

abbrev pub IsCovered : Plain → Type 0
IsCovered p = (k : Kind) (s : SlotId) → 0 < snapshot_times k p s → Covers k p s

-- its object is neither alive nor about to be destroyed
abbrev pub IsVacant : PlainSlot → Type 0
IsVacant x = (x.stage ≢ Live) × (x.stage ≢ Ended)

abbrev pub HasNullFields : PlainSlot → Type 0
HasNullFields x = (x.first ≡ None) × (x.second ≡ None) × (x.weak_field ≡ None)

pub record Lawful (p : Plain) : Type 0 where
  pub covered : IsCovered p
  pub strong : (s : SlotId) → 0 < strong_refs p s → (stage_at p s ≡ Live) × ((slot_at p s).marked ≡ false)
  pub weak : (s : SlotId) → 0 < weak_refs p s → stage_at p s ≢ Free
  pub once : (s : SlotId) → dying_times p s ≤ 1
  pub dying : (s : SlotId) → (stage_at p s ≡ Ended) ↔ (0 < dying_times p s)
  -- an object that isn't alive can't be upgraded to
  pub marks : (s : SlotId) → stage_at p s ≢ Live → (slot_at p s).marked ≡ true
  pub nulls : (s : SlotId) → IsVacant (slot_at p s) → HasNullFields (slot_at p s)
