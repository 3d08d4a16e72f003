-- A heap as words, and the words of a plain state.
use Rattle.std.specs.Prelude.{ℕ, ◌≡◌, ◌<◌, List, [], ◌∷◌, length, map, slice_index_or, if◌then◌else◌}
use Rattle.counter_word.specs.Words.{ZERO}
use Rattle.plain_state.specs.declared.slot.SlotId.{SlotId}
use Rattle.plain_state.specs.declared.slot.PlainSlot.{PlainSlot}
use Rattle.plain_state.specs.declared.image.SlotImage.{SlotImage}
use Rattle.plain_state.specs.declared.image.Heap.{Heap}
use Rattle.plain_state.specs.State.{Plain, seat_at, slot_at, no_payload}
use Rattle.plain_state.specs.References.{strong_refs, weak_refs}
use Rattle.plain_state.specs.Steps.{word_of}

abbrev pub free_image : SlotImage
free_image = record { strong = ZERO; weak = 0; fields = 0 ∷ 0 ∷ []; weak_field = 0; payload = no_payload }

abbrev pub slot_image : List SlotImage → SlotId → SlotImage
slot_image images s = slice_index_or images s.0 free_image

-- the words of a slot with so many references: where its zero mark stands, the strong word is the zero flag alone
abbrev pub image_of : PlainSlot → ℕ → ℕ → SlotImage
image_of x strongs weaks = record {
  strong = if x.marked then ZERO else strongs;
  weak = weaks;
  fields = word_of x.first ∷ word_of x.second ∷ [];
  weak_field = word_of x.weak_field;
  payload = x.payload;
}

abbrev pub image_at : Plain → SlotId → SlotImage
image_at p s = image_of (slot_at p s) (strong_refs p s) (weak_refs p s)

-- the heap has the words of the plain state of one seat, and its deferred entries
pub record IsImage (p : Plain) (heap : Heap) : Type 0 where
  pub size : length heap.slots.items ≡ length p.slots
  pub slots : (s : SlotId) → s.0 < length p.slots → slot_image heap.slots.items s ≡ image_at p s
  pub cells : heap.cells.items ≡ map word_of p.cells
  pub weak_cells : heap.weak_cells.items ≡ map word_of p.weak_cells
  pub deferred : heap.deferred.items ≡ (seat_at p 0).deferred
