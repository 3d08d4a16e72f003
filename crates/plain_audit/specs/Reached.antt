-- Which slots of a plain state are reached from what is owned, from a strong cell or from a deferred strong entry.
use Rattle.std.specs.Prelude.{◌≡◌, ◌<◌, ◌+◌}
use Rattle.heap_audit.specs.plain_state.declared.slot.Kind.TheVariants.{Strong}
use Rattle.heap_audit.specs.plain_state.declared.slot.SlotId.{SlotId}
use Rattle.heap_audit.specs.plain_state.declared.slot.Stage.TheVariants.{Live}
use Rattle.heap_audit.specs.plain_state.Lists.{times, cell_times}
use Rattle.heap_audit.specs.plain_state.State.{Plain, slot_at, stage_at}
use Rattle.heap_audit.specs.plain_state.References.{over_seats, strong_fields, deferrals}
use Rattle.heap_audit.specs.Paths.{LeadsTo}

-- a is Live and a strong field of a holds b
abbrev pub HasField : Plain → SlotId → SlotId → Type 0
HasField p a b = (stage_at p a ≡ Live) × (0 < strong_fields b (slot_at p a))

-- a seat owns s, a strong cell holds it, or it stands in a deferred strong entry
abbrev pub IsRoot : Plain → SlotId → Type 0
IsRoot p s = 0 < over_seats (λ v. times s v.owned) p.seats + cell_times s p.cells + deferrals Strong p s

-- such a slot leads to s along strong fields, in any number of steps
abbrev pub IsReached : Plain → SlotId → Type 0
IsReached p s = (root : SlotId) × IsRoot p root × LeadsTo (HasField p) root s

-- s is Live, and only cycles of strong fields keep it
abbrev pub IsUnreached : Plain → SlotId → Type 0
IsUnreached p s = (stage_at p s ≡ Live) × (IsReached p s → ⊥)
