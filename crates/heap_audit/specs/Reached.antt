-- Which slots are reached from what is owned, from a strong cell or from a deferred strong entry.
use Rattle.std.specs.Prelude.{ℕ, ◌≡◌, ◌<◌, ◌⊎◌, suc, zero}
use Rattle.deleter.specs.plain_state.declared.slot.SlotId.{SlotId}
use Rattle.deleter.specs.plain_state.declared.image.Heap.{Heap}
use Rattle.heap_audit.specs.Heaps.{IsLive, image_of, fields_holding, in_cells, in_deferred, owned}
use Rattle.heap_audit.specs.Paths.{LeadsTo}

-- a is Live and a strong field of a holds b
abbrev pub HasField : Heap → SlotId → SlotId → Type 0
HasField heap a b = IsLive heap a × (0 < fields_holding b (image_of heap a))

-- s has an owned reference, or stands in a strong cell or in a deferred strong entry
abbrev pub IsRoot : Heap → SlotId → Type 0
IsRoot heap s = (0 < owned heap s) ⊎ ((0 < in_cells heap s) ⊎ (0 < in_deferred heap s))

-- such a slot leads to s along strong fields
abbrev pub IsReached : Heap → SlotId → Type 0
IsReached heap s = (root : SlotId) × IsRoot heap root × LeadsTo (HasField heap) root s

abbrev pub IsUnreached : Heap → SlotId → Type 0
IsUnreached heap s = IsLive heap s × (IsReached heap s → ⊥)

-- just this many of the first n numbers have the property
abbrev pub HowMany : (ℕ → Type 0) → ℕ → ℕ → Type 0
HowMany P zero many = many ≡ 0
HowMany P (suc n) many =
    ((fewer : ℕ) × P n × HowMany P n fewer × (many ≡ suc fewer)) ⊎ ((P n → ⊥) × HowMany P n many)
