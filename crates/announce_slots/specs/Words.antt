-- Announcement words: a word announces one slot, under one kind.
use Rattle.std.specs.Prelude.{ℕ, ◌≡◌, ◌<◌, ◌≤◌, ◌+◌, ◌*◌, ◌^◌}
use Rattle.plain_state.specs.Limits.{most_slots}
use Rattle.plain_state.specs.declared.slot.Kind.{Kind}
use Rattle.plain_state.specs.declared.slot.Kind.TheVariants.{Strong, Weak, Disposal}
use Rattle.plain_state.specs.declared.slot.SlotId.{SlotId}

-- the word of a kind by its number and of a slot. The word 0 announces nothing
abbrev pub announcement : ℕ → ℕ → ℕ
announcement kind slot = 4 * (slot + 1) + kind

-- there are such a kind and such a slot
abbrev pub IsInRange : ℕ → ℕ → Type 0
IsInRange kind slot = (kind ≤ 2) × (slot < most_slots)

-- the word announces the slot under this kind
abbrev pub Announces : ℕ → ℕ → ℕ → Type 0
Announces word kind slot = IsInRange kind slot × (word ≡ announcement kind slot)

-- the number of a kind in an announcement word
abbrev pub number_of : Kind → ℕ
number_of Strong = 0
number_of Weak = 1
number_of Disposal = 2

-- the announcement word of a reference
abbrev pub code : Kind → SlotId → ℕ
code k s = announcement (number_of k) s.0
