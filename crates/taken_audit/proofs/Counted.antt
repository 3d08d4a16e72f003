-- What the words of a part count, and which of its slots are Live: as in the state, of the slots in these places.
use Rattle.std.proofs.Common.{◌≡◌, ◌≢◌, ℕ, zero, suc, ◌+◌, ◌^◌, ◌<◌, ◌≤◌, Bool, true, false, List, [], ◌∷◌, length, get_or, map, count_by, sum_by, refl, ap, sym, ◌∙◌, subst, arith, inl, inr}
use Rattle.std.specs.Prelude.{slice_index, if◌then◌else◌}
use Rattle.std.proofs.lemmas.Bool.Decides.{nat_tests}
use Rattle.std.proofs.lemmas.List.{get_or-map, length-map}
use Rattle.std.proofs.lemmas.List.Sums.{sum_by-cons}
use Rattle.plain_audit.specs.plain_state.declared.act.EventPlace.TheVariants.{Field, WeakField}
use Rattle.plain_audit.specs.plain_state.declared.image.Heap.{Heap}
use Rattle.plain_audit.specs.plain_state.declared.image.SlotImage.{SlotImage}
use Rattle.plain_audit.specs.plain_state.declared.slot.Kind.TheVariants.{Strong}
use Rattle.plain_audit.specs.plain_state.declared.slot.PlainSlot.{PlainSlot}
use Rattle.plain_audit.specs.plain_state.declared.slot.SlotId.{SlotId}
use Rattle.plain_audit.specs.plain_state.declared.slot.Stage.TheVariants.{Free, Live}
use Rattle.plain_audit.specs.plain_state.Images.{free_image, image_at}
use Rattle.heap_audit.specs.counter_word.Words.{value}
use Rattle.plain_audit.specs.plain_state.Lists.{cell_times, entry_times}
use Rattle.plain_audit.specs.plain_state.State.{Plain, slot_at, stage_at}
use Rattle.plain_audit.specs.plain_state.References.{deferrals, held_in, over_slots, strong_fields, strong_refs}
use Rattle.plain_audit.specs.plain_state.Steps.{word_of}
use Rattle.heap_audit.proofs.Below.plain_state_Changes.{owned_times}
use Rattle.heap_audit.proofs.Below.plain_state_Kit.{held_none, none_by}
use Rattle.heap_audit.proofs.Below.plain_state_SlotLaw.{live_unmarked, numbers, slot_law}
use Rattle.plain_audit.specs.plain_store.Heaps.{IsHeap}
use Rattle.plain_audit.specs.plain_store.Settling.{IsSettled}
use Rattle.plain_audit.specs.heap_audit.Heaps.{IsLive, entries, fields_holding, image_of, in_cells, in_deferred, in_fields, names, slot, strong_count}
use Rattle.plain_audit.proofs.Numbers.{cell_words, held_word, seat_alone}
use Rattle.taken_audit.specs.Parts.{IsNamed, IsPart}
use Rattle.taken_audit.specs.Placed.{Rises, at, placed, placed_image}
use Rattle.acquire_retire.specs.Taken.{taken_slots}
use Rattle.taken_audit.proofs.Given.{cells_named, entries_stand, every, place_named}
use Rattle.taken_audit.proofs.Listed.{rises_taken, sum_taken}
use Rattle.taken_audit.proofs.Named.{Every, entries_same, fields_same, words_same}
use Rattle.taken_audit.proofs.Places.{at_below}

value_of : (marked : Bool) (refs : ℕ) → refs < 2 ^ 63 → (marked ≡ true → refs ≡ 0)
    → value (if marked then 2 ^ 63 else refs) ≡ refs
value_of true refs few none = sym (none refl)
value_of false refs few none = grind (arith, nat_tests)

unmarked : (marked : Bool) (refs : ℕ) → (if marked then 2 ^ 63 else refs) < 2 ^ 63
    → marked ≡ false
unmarked true refs lt = absurd (omega (arith, lt))
unmarked false refs lt = refl

-- the same numbers of the elements of a list and of what is made of them, added up
pub sum_maps : {A B C : Type 0} (f : C → ℕ) (g : A → ℕ) (v : A → B) (w : B → C) (xs : List A)
    → Every (λ x. f (w (v x)) ≡ g x) xs → sum_by f (map w (map v xs)) ≡ sum_by g xs
sum_maps f g v w [] each = refl
sum_maps f g v w (x ∷ xs) each =
    let rest = sum_maps f g v w xs each.1 in
    let new = sum_by-cons f (w (v x)) (map w (map v xs)) in
    let old = sum_by-cons g x xs in
    let here = each.0 in omega (arith, new, old, rest, here)

module _ (p : Plain) (fits : List ℕ → Type 0) (heap : IsHeap fits p) (part : Heap)
    (is : IsPart p (taken_slots p) part) where
  abbrev pub taken : List SlotId
  taken = taken_slots p

  pub rises : Rises 0 taken (length p.slots)
  rises = rises_taken p (length p.slots)

  pub size : length part.slots.items ≡ length taken
  size =
      ap length is.slots
      ∙ (length-map (map (image_at p) taken) (placed_image taken)
      ∙ length-map taken (image_at p))

  pub inside : (k : ℕ) → k < length taken → (at taken k).0 < length p.slots
  inside k lt = at_below 0 (length p.slots) taken k rises lt

  pub image_is : (k : ℕ) → k < length taken
      → image_of part (slot k) ≡ placed_image taken (image_at p (at taken k))
  image_is k lt =
      let count = length-map taken (image_at p) in
      ap (λ (xs : List SlotImage). get_or xs k free_image) is.slots
      ∙ (get_or-map (placed_image taken) (map (image_at p) taken) k free_image free_image
      (omega (arith, lt, count))
      ∙ ap (placed_image taken) (get_or-map (image_at p) taken k (slot 0) free_image lt))

  -- the words of a slot's fields name slots of the list
  pub first_named : (s : SlotId) → s.0 < length p.slots → IsNamed taken (word_of (slot_at p s).first)
  first_named s lt =
      place_named p heap.sound heap.seats heap.disposals (Field s 0) (slot_at p s).first lt refl

  pub second_named : (s : SlotId) → s.0 < length p.slots
      → IsNamed taken (word_of (slot_at p s).second)
  second_named s lt =
      place_named p heap.sound heap.seats heap.disposals (Field s 1) (slot_at p s).second lt refl

  pub weak_named : (s : SlotId) → s.0 < length p.slots
      → IsNamed taken (word_of (slot_at p s).weak_field)
  weak_named s lt =
      place_named p heap.sound heap.seats heap.disposals (WeakField s) (slot_at p s).weak_field lt
      refl

  -- free slots have null fields
  no_fields : (t s : SlotId) → stage_at p s ≡ Free → strong_fields t (slot_at p s) ≡ 0
  no_fields t s free =
      let nulls = heap.sound.lawful.nulls s ((λ live. cc), (λ ended. cc)) in
      let f = ap (held_in t) nulls.0 in
      let g = ap (held_in t) nulls.1 in
      let z = held_none t in omega (arith, f, g, z)

  module _ (k : ℕ) (lt : k < length taken) where
    image_fields : (s : SlotId) → s.0 < length p.slots
        → fields_holding (slot k) (placed_image taken (image_at p s))
        ≡ strong_fields (at taken k) (slot_at p s)
    unfolding fields_holding
    image_fields s there =
        fields_same (length p.slots) taken rises k lt (image_at p s) (first_named s there)
        (second_named s there)
        ∙ (let f = held_word (at taken k) (slot_at p s).first in
        let g = held_word (at taken k) (slot_at p s).second in omega (arith, f, g))

    pub fields_at : (j : ℕ) → j < length taken
        → fields_holding (slot k) (image_of part (slot j))
        ≡ strong_fields (at taken k) (slot_at p (at taken j))
    fields_at j below =
        ap (fields_holding (slot k)) (image_is j below) ∙ image_fields (at taken j) (inside j below)

    in_fields_is : in_fields part (slot k) ≡ over_slots (strong_fields (at taken k)) p.slots
    unfolding in_fields
    in_fields_is =
        ap (sum_by (fields_holding (slot k))) is.slots
        ∙ (sum_maps (fields_holding (slot k)) (λ s. strong_fields (at taken k) (slot_at p s))
        (image_at p) (placed_image taken) taken
        (every (λ s. fields_holding (slot k) (placed_image taken (image_at p s))
        ≡ strong_fields (at taken k) (slot_at p s)) (slot 0) taken
        (λ i below. image_fields (at taken i) (inside i below)))
        ∙ sum_taken p (strong_fields (at taken k)) (no_fields (at taken k)))

    pub in_cells_is : in_cells part (slot k) ≡ cell_times (at taken k) p.cells
    unfolding in_cells
    in_cells_is =
        ap (count_by (names (slot k))) is.cells
        ∙ (words_same (length p.slots) taken rises k lt (map word_of p.cells)
        (cells_named p heap.sound heap.seats heap.disposals)
        ∙ cell_words (at taken k) p.cells)

    pub in_deferred_is : in_deferred part (slot k) ≡ deferrals Strong p (at taken k)
    unfolding in_deferred
    in_deferred_is =
        ap (entry_times Strong (slot k)) is.deferred
        ∙ (entries_same (length p.slots) taken rises k lt Strong _
        (entries_stand p heap.sound heap.seats heap.disposals)
        ∙ sym (seat_alone (λ v. entry_times Strong (at taken k) v.deferred) p heap.seats))

    -- what places and deferred entries hold, and what the seat owns, is all
    pub entries_are : entries part (slot k) + owned_times p (at taken k) ≡ strong_refs p (at taken k)
    entries_are =
        let f = in_fields_is in let c = in_cells_is in let d = in_deferred_is in
        omega (arith, f, c, d)

    pub few : strong_refs p (at taken k) < 2 ^ 63
    few =
        let f = heap.sound.strong_few (at taken k) in let a = heap.adds in omega (arith, f, a)

    strong_word : (image_of part (slot k)).strong
        ≡ (if (slot_at p (at taken k)).marked then 2 ^ 63 else strong_refs p (at taken k))
    strong_word = ap (λ (x : SlotImage). x.strong) (image_is k lt)

    none_marked : (slot_at p (at taken k)).marked ≡ true → strong_refs p (at taken k) ≡ 0
    none_marked marked = none_by (strong_refs p (at taken k))
        (λ some. let not = (heap.sound.lawful.strong (at taken k) some).1 in cc)

    pub none_other : stage_at p (at taken k) ≢ Live → strong_refs p (at taken k) ≡ 0
    none_other other = none_by (strong_refs p (at taken k))
        (λ some. other (heap.sound.lawful.strong (at taken k) some).0)

    pub strong_count_is : strong_count part (slot k) ≡ strong_refs p (at taken k)
    strong_count_is =
        ap value strong_word
        ∙ value_of (slot_at p (at taken k)).marked (strong_refs p (at taken k)) few none_marked

    -- a slot is Live where its word says so
    pub live_to : IsLive part (slot k) → stage_at p (at taken k) ≡ Live
    live_to live =
        live_unmarked (numbers p (at taken k)) (slot_at p (at taken k))
        (slot_law p heap.sound (at taken k))
        (unmarked (slot_at p (at taken k)).marked (strong_refs p (at taken k))
        (subst (λ (word : ℕ). word < 2 ^ 63) strong_word live.1))

    pub live_from : IsSettled p → stage_at p (at taken k) ≡ Live → IsLive part (slot k)
    live_from settled live =
        let not = (heap.sound.lawful.strong (at taken k) (settled.ended (at taken k) live)).1 in
        let word : (image_of part (slot k)).strong ≡ strong_refs p (at taken k) = strong_word
        ∙ ap (λ (b : Bool). if b then 2 ^ 63 else strong_refs p (at taken k)) not in
        let f = few in
        (omega (arith, lt, size), omega (arith, word, f))
