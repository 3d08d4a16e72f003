-- What the words of the image of a settled heap count, and which of its slots are Live.
use Rattle.std.proofs.Common.{◌≡◌, ◌≢◌, ℕ, ◌+◌, ◌^◌, ◌<◌, Bool, true, false, List, length, count_by, refl, ap, sym, ◌∙◌, subst, arith, inl, inr}
use Rattle.std.specs.Prelude.{if◌then◌else◌}
use Rattle.std.proofs.lemmas.Bool.{cases_lt}
use Rattle.std.proofs.lemmas.Bool.Decides.{nat_tests}
use Rattle.std.proofs.lemmas.List.{get_or_past}
use Rattle.heap_audit.specs.plain_state.declared.image.Heap.{Heap}
use Rattle.heap_audit.specs.plain_state.declared.image.SlotImage.{SlotImage}
use Rattle.heap_audit.specs.plain_state.declared.slot.Kind.TheVariants.{Strong}
use Rattle.heap_audit.specs.plain_state.declared.slot.PlainSlot.{PlainSlot}
use Rattle.heap_audit.specs.plain_state.declared.slot.SlotId.{SlotId}
use Rattle.heap_audit.specs.plain_state.declared.slot.Stage.TheVariants.{Free, Live}
use Rattle.heap_audit.specs.plain_state.Images.{IsImage, free_image}
use Rattle.heap_audit.specs.counter_word.Words.{value}
use Rattle.heap_audit.specs.plain_state.Lists.{cell_times, entry_times}
use Rattle.heap_audit.specs.plain_state.State.{Plain, new_slot, slot_at, stage_at}
use Rattle.heap_audit.specs.plain_state.References.{over_slots, strong_fields, deferrals, strong_refs}
use Rattle.heap_audit.proofs.Below.plain_state_Changes.{owned_times}
use Rattle.heap_audit.proofs.Below.plain_state_Kit.{none_by}
use Rattle.heap_audit.proofs.Below.plain_state_SeatRows.{is_there}
use Rattle.heap_audit.proofs.Below.plain_state_SlotLaw.{numbers, slot_law, live_unmarked}
use Rattle.cdrc_plain.specs.plain_store.Heaps.{IsHeap}
use Rattle.cdrc_plain.specs.plain_store.Settling.{IsSettled}
use Rattle.heap_audit.specs.Heaps.{slot, image_of, IsLive, names, fields_holding, in_fields, in_cells, in_deferred, entries, strong_count}
use Rattle.plain_audit.proofs.Numbers.{seat_alone, held_word, same_sums, cell_words}

-- a strong word counts the references, where a slot with the zero mark has none
value_of : (marked : Bool) (refs : ℕ) → refs < 2 ^ 63 → (marked ≡ true → refs ≡ 0) → value (if marked then 2 ^ 63 else refs) ≡ refs
value_of true refs few none = sym (none refl)
value_of false refs few none = grind (arith, nat_tests)

unmarked : (marked : Bool) (refs : ℕ) → (if marked then 2 ^ 63 else refs) < 2 ^ 63 → marked ≡ false
unmarked true refs lt = absurd (omega (arith, lt))
unmarked false refs lt = refl

module _ (p : Plain) (image : Heap) (is : IsImage p image) where
  pub fields_at : (s a : SlotId) → a.0 < length p.slots → fields_holding s (image_of image a) ≡ strong_fields s (slot_at p a)
  unfolding fields_holding
  fields_at s a lt =
      ap (fields_holding s) (is.slots a lt)
      ∙ omega (arith, held_word s (slot_at p a).first, held_word s (slot_at p a).second)

  in_fields_is : (s : SlotId) → in_fields image s ≡ over_slots (strong_fields s) p.slots
  unfolding in_fields
  in_fields_is s = same_sums (fields_holding s) (strong_fields s) image.slots.items p.slots is.size (λ k lt. fields_at s (slot k) lt)

  pub in_cells_is : (s : SlotId) → in_cells image s ≡ cell_times s p.cells
  unfolding in_cells
  in_cells_is s = ap (count_by (names s)) is.cells ∙ cell_words s p.cells

  module _ (fits : List ℕ → Type 0) (heap : IsHeap fits p) where
    pub in_deferred_is : (s : SlotId) → in_deferred image s ≡ deferrals Strong p s
    unfolding in_deferred
    in_deferred_is s =
        ap (entry_times Strong s) is.deferred ∙ sym (seat_alone (λ v. entry_times Strong s v.deferred) p heap.seats)

    -- what places and deferred entries hold, and what the seat owns, is all
    pub entries_are : (s : SlotId) → entries image s + owned_times p s ≡ strong_refs p s
    entries_are s = omega (arith, in_fields_is s, in_cells_is s, in_deferred_is s)

    pub few : (s : SlotId) → strong_refs p s < 2 ^ 63
    few s = omega (arith, heap.sound.strong_few s, heap.adds)

    none_marked : (s : SlotId) → (slot_at p s).marked ≡ true → strong_refs p s ≡ 0
    none_marked s marked = none_by (strong_refs p s) (λ some. let not = (heap.sound.lawful.strong s some).1 in cc)

    pub none_other : (s : SlotId) → stage_at p s ≢ Live → strong_refs p s ≡ 0
    none_other s other = none_by (strong_refs p s) (λ some. other (heap.sound.lawful.strong s some).0)

    strong_word : (s : SlotId) → s.0 < length p.slots → (image_of image s).strong ≡ (if (slot_at p s).marked then 2 ^ 63 else strong_refs p s)
    strong_word s lt = ap (λ (x : SlotImage). x.strong) (is.slots s lt)

    pub strong_count_is : (s : SlotId) → strong_count image s ≡ strong_refs p s
    strong_count_is s =
        elim (cases_lt s.0 (length p.slots)) [
          | inl lt ↦ ap value (strong_word s lt) ∙ value_of (slot_at p s).marked (strong_refs p s) (few s) (none_marked s)
          | inr past ↦ (
              let free : stage_at p s ≡ Free = ap (λ (x : PlainSlot). x.stage) (get_or_past p.slots s.0 new_slot past) in
              ap (λ (x : SlotImage). value x.strong) (get_or_past image.slots.items s.0 free_image (omega (arith, past, is.size)))
              ∙ sym (none_other s (λ live. cc)))
        ]

    -- a slot is Live where its word says so
    pub live_to : (s : SlotId) → IsLive image s → stage_at p s ≡ Live
    live_to s live =
        let lt : s.0 < length p.slots = omega (arith, live.0, is.size) in
        live_unmarked (numbers p s) (slot_at p s) (slot_law p heap.sound s)
        (unmarked (slot_at p s).marked (strong_refs p s) (subst (λ (word : ℕ). word < 2 ^ 63) (strong_word s lt) live.1))

    module _ (settled : IsSettled p) where
      pub live_from : (s : SlotId) → stage_at p s ≡ Live → IsLive image s
      live_from s live =
          let lt = is_there p s (λ free. cc) in
          let not = (heap.sound.lawful.strong s (settled.ended s live)).1 in
          let word : (image_of image s).strong ≡ strong_refs p s = strong_word s lt ∙ ap (λ (b : Bool). if b then 2 ^ 63 else strong_refs p s) not in
          (omega (arith, lt, is.size), omega (arith, word, few s))
