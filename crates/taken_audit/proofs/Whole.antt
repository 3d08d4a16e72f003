-- What has the words of the slots that aren't free has the words of a part, once they name slots by their places.
use Rattle.std.proofs.Common.{◌≡◌, ℕ, ◌<◌, ◌≤◌, List, length, map, All, ap, sym, ◌∙◌, subst, arith}
use Rattle.std.specs.Prelude.{slice_index}
use Rattle.std.proofs.lemmas.List.{get_or-map}
use Rattle.plain_audit.specs.plain_state.Limits.{most_slots}
use Rattle.plain_audit.specs.plain_state.declared.image.Heap.{Heap}
use Rattle.plain_audit.specs.plain_state.declared.slot.SlotId.{SlotId}
use Rattle.plain_audit.specs.plain_state.State.{Plain}
use Rattle.plain_audit.specs.heap_audit.Heaps.{slot}
use Rattle.plain_audit.specs.heap_audit.Walks.{rank_of}
use Rattle.taken_audit.specs.Parts.{AreRanks, HasTaken, IsPart}
use Rattle.taken_audit.specs.Placed.{IsPlaced, Rises, at, placed, placed_entry, placed_image}
use Rattle.acquire_retire.specs.Taken.{taken_slots}
use Rattle.taken_audit.proofs.Counted.{size}
use Rattle.taken_audit.proofs.Listed.{rises_taken}
use Rattle.taken_audit.proofs.Places.{rises_few, rises_within}

module _ (fits : List ℕ → Type 0) (p : Plain) (taken : List SlotId) (heap part : Heap)
    (has : HasTaken fits p taken heap) where
  pub rises_all : Rises 0 taken (length p.slots)
  rises_all = subst (λ (ts : List SlotId). Rises 0 ts (length p.slots)) (sym has.all)
      (rises_taken p (length p.slots))

  pub few : length taken ≤ most_slots
  few =
      let within = rises_few 0 (length p.slots) taken rises_all in
      let most = has.state.slots in omega (arith, within, most)

  pub is_part : IsPlaced taken heap part → IsPart p (taken_slots p) part
  is_part is = subst (λ (ts : List SlotId). IsPart p ts part) has.all (record {
    slots = is.slots ∙ ap (map (placed_image taken)) has.words.slots;
    cells = is.cells ∙ ap (map (placed taken)) has.words.cells;
    weak_cells = is.weak_cells ∙ ap (map (placed taken)) has.words.weak_cells;
    deferred = is.deferred ∙ ap (map (placed_entry taken)) has.words.deferred;
  })

  pub part_size : IsPlaced taken heap part → length part.slots.items ≡ length taken
  part_size is = size p fits has.state part (is_part is) ∙ sym (ap length has.all)

  -- each that is listed is there
  pub all_within : All (λ (s : SlotId). s.0 < length p.slots) taken
  all_within k d lt = rises_within 0 (length p.slots) taken k d rises_all lt

-- ranks that are taken from the slots in their places
pub ranks_by : (f : SlotId → ℕ) (taken : List SlotId) (places ranks : List ℕ)
    → places ≡ map f taken → {n : ℕ} → ((s : SlotId) → s.0 < n → f s ≡ rank_of ranks s)
    → All (λ (s : SlotId). s.0 < n) taken → AreRanks taken places ranks
ranks_by f taken places ranks are each within k lt =
    ap (λ (xs : List ℕ). slice_index xs k) are
    ∙ (get_or-map f taken k (slot 0) 0 lt ∙ each (at taken k) (within k (slot 0) lt))
