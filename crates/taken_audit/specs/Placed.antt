-- Words that name slots of a list by their places in it.
use Rattle.std.specs.Prelude.{ℕ, suc, ◌≡◌, ◌+◌, ◌-◌, ◌≤◌, List, [], ◌∷◌, map, count_by, nat_lt, slice_index, slice_index_or}
use Rattle.plain_audit.specs.plain_state.declared.image.Heap.{Heap}
use Rattle.plain_audit.specs.plain_state.declared.image.SlotImage.{SlotImage}
use Rattle.plain_audit.specs.plain_state.declared.slot.SlotId.{SlotId}
use Rattle.plain_audit.specs.plain_state.Lists.{Entry}
use Rattle.plain_audit.specs.heap_audit.Heaps.{slot}

-- the slot in a place of the list
abbrev pub at : List SlotId → ℕ → SlotId
at taken k = slice_index_or taken k (slot 0)

-- the numbers rise, from m on, and are all below b
abbrev pub Rises : ℕ → List SlotId → ℕ → Type 0
Rises m [] b = m ≤ b
Rises m (s ∷ ss) b = (m ≤ s.0) × Rises (suc s.0) ss b

-- a word names a slot by its number and one. The word that names it by its place in the list and one: as many slots of
-- the list have numbers below that word
abbrev pub placed : List SlotId → ℕ → ℕ
placed taken word = count_by (λ s. nat_lt s.0 word) taken

abbrev pub placed_slot : List SlotId → SlotId → SlotId
placed_slot taken s = slot (placed taken (s.0 + 1) - 1)

abbrev pub placed_image : List SlotId → SlotImage → SlotImage
placed_image taken x = record x {
  fields = placed taken (slice_index x.fields 0) ∷ placed taken (slice_index x.fields 1) ∷ [];
  weak_field = placed taken x.weak_field;
}

abbrev pub placed_entry : List SlotId → Entry → Entry
placed_entry taken e = (e.0, placed_slot taken e.1)

-- all words of the heap name slots by their places
pub record IsPlaced (taken : List SlotId) (old new : Heap) : Type 0 where
  pub slots : new.slots.items ≡ map (placed_image taken) old.slots.items
  pub cells : new.cells.items ≡ map (placed taken) old.cells.items
  pub weak_cells : new.weak_cells.items ≡ map (placed taken) old.weak_cells.items
  pub deferred : new.deferred.items ≡ map (placed_entry taken) old.deferred.items
