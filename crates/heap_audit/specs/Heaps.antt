-- What the words of a heap say: which slots are Live, what holds a slot, and which heaps are lawful.
use Rattle.std.specs.Prelude.{ℕ, ◌≡◌, ◌<◌, ◌≤◌, ◌+◌, ◌-◌, ◌^◌, ◌==◌, List, length, All, Bool, nat_lt, count_by, sum_by, slice_index, if◌then◌else◌}
use Rattle.deleter.specs.plain_state.declared.slot.Kind.TheVariants.{Strong}
use Rattle.deleter.specs.plain_state.declared.slot.SlotId.{SlotId}
use Rattle.deleter.specs.plain_state.declared.image.SlotImage.{SlotImage}
use Rattle.deleter.specs.plain_state.declared.image.Heap.{Heap}
use Rattle.deleter.specs.plain_state.Images.{slot_image}
use Rattle.deleter.specs.counter_word.Words.{value}
use Rattle.deleter.specs.plain_state.Lists.{Entry, entry_times}

-- the slot of this number
abbrev pub slot : ℕ → SlotId
slot n = record { 0 = n }

-- the words of slot s
abbrev pub image_of : Heap → SlotId → SlotImage
image_of heap s = slot_image heap.slots.items s

-- a slot is Live where its strong word has no zero flag
abbrev pub has_no_zero : SlotImage → Bool
has_no_zero x = nat_lt x.strong (2 ^ 63)

abbrev pub IsLive : Heap → SlotId → Type 0
IsLive heap s = (s.0 < length heap.slots.items) × ((image_of heap s).strong < 2 ^ 63)

-- the word of a place holds s: it is the slot's number and one
abbrev pub names : SlotId → ℕ → Bool
names s word = word == s.0 + 1

-- 1 where the word holds s
unfoldable pub held : SlotId → ℕ → ℕ
held s word = if names s word then 1 else 0

-- how many strong fields of a slot hold s
unfoldable pub fields_holding : SlotId → SlotImage → ℕ
fields_holding s x = held s (slice_index x.fields 0) + held s (slice_index x.fields 1)

-- how many strong fields of all slots, strong cells, and deferred strong entries hold s
unfoldable pub in_fields : Heap → SlotId → ℕ
in_fields heap s = sum_by (fields_holding s) heap.slots.items

unfoldable pub in_cells : Heap → SlotId → ℕ
in_cells heap s = count_by (names s) heap.cells.items

unfoldable pub in_deferred : Heap → SlotId → ℕ
in_deferred heap s = entry_times Strong s heap.deferred.items

abbrev pub entries : Heap → SlotId → ℕ
entries heap s = in_cells heap s + in_fields heap s + in_deferred heap s

-- the strong count of a slot, and its owned references: what no place and no deferred entry accounts for
abbrev pub strong_count : Heap → SlotId → ℕ
strong_count heap s = value (image_of heap s).strong

abbrev pub owned : Heap → SlotId → ℕ
owned heap s = strong_count heap s - entries heap s

-- a slot whose fields are all null
pub record HasNullFields (x : SlotImage) : Type 0 where
  pub first : slice_index x.fields 0 ≡ 0
  pub second : slice_index x.fields 1 ≡ 0
  pub weak : x.weak_field ≡ 0

-- a Live slot has a strong count of at least 1 and at least its entries; every other slot has null fields and no entry
pub record ObeysAt (heap : Heap) (s : SlotId) : Type 0 where
  pub counted : IsLive heap s → 1 ≤ strong_count heap s
  pub covered : IsLive heap s → entries heap s ≤ strong_count heap s
  pub bare : (IsLive heap s → ⊥) → HasNullFields (image_of heap s)
  pub alone : (IsLive heap s → ⊥) → entries heap s ≡ 0

abbrev pub IsLawful : Heap → Type 0
IsLawful heap = (s : SlotId) → s.0 < length heap.slots.items → ObeysAt heap s

-- a word names a slot of these, or none
abbrev pub Within : ℕ → ℕ → Type 0
Within slots word = word ≤ slots

pub record HasFieldsWithin (slots : ℕ) (x : SlotImage) : Type 0 where
  pub first : Within slots (slice_index x.fields 0)
  pub second : Within slots (slice_index x.fields 1)
  pub weak : Within slots x.weak_field

-- every slot that a word or a deferred entry names is there
pub record IsInRange (heap : Heap) : Type 0 where
  pub fields : All (HasFieldsWithin (length heap.slots.items)) heap.slots.items
  pub cells : All (Within (length heap.slots.items)) heap.cells.items
  pub weak_cells : All (Within (length heap.slots.items)) heap.weak_cells.items
  pub deferred : All (λ (e : Entry). e.1.0 < length heap.slots.items) heap.deferred.items

-- the payload of each Live slot fits
abbrev pub HasFittingPayloads : (List ℕ → Type 0) → Heap → Type 0
HasFittingPayloads fits heap = All (λ x. x.strong < 2 ^ 63 → fits x.payload) heap.slots.items

-- how many slots are Live, and what the Live slots weigh together
abbrev pub live_slots : Heap → ℕ
live_slots heap = count_by has_no_zero heap.slots.items

unfoldable pub weight_of : (List ℕ → ℕ) → SlotImage → ℕ
weight_of weight x = if has_no_zero x then weight x.payload else 0

abbrev pub live_bytes : (List ℕ → ℕ) → Heap → ℕ
live_bytes weight heap = sum_by (weight_of weight) heap.slots.items
