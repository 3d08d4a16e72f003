-- The image of a settled heap obeys the law of heaps: what an audit of the image asks.
use Rattle.std.proofs.Common.{◌≡◌, ◌≢◌, ℕ, ◌^◌, ◌<◌, ◌≤◌, List, length, get_or, All, refl, ap, sym, ◌∙◌, subst, arith, inl, None}
use Rattle.std.proofs.lemmas.List.Elements.{All-map, All-from_get_or}
use Rattle.heap_audit.specs.plain_state.declared.act.EventPlace.TheVariants.{Cell, Field, WeakCell, WeakField}
use Rattle.heap_audit.specs.plain_state.declared.image.Heap.{Heap}
use Rattle.heap_audit.specs.plain_state.declared.image.SlotImage.{SlotImage}
use Rattle.heap_audit.specs.plain_state.declared.slot.SlotId.{SlotId}
use Rattle.heap_audit.specs.plain_state.declared.slot.Stage.TheVariants.{Live, Ended}
use Rattle.heap_audit.specs.plain_state.Images.{IsImage, free_image}
use Rattle.heap_audit.specs.plain_state.Lists.{Entry, times}
use Rattle.heap_audit.specs.plain_state.State.{Plain, slot_at, stage_at}
use Rattle.heap_audit.specs.plain_state.References.{dying_times}
use Rattle.heap_audit.specs.plain_state.Steps.{word_of}
use Rattle.heap_audit.proofs.Below.plain_state_Kit.{times_none}
use Rattle.cdrc_plain.specs.plain_store.Heaps.{IsHeap}
use Rattle.cdrc_plain.specs.plain_store.Settling.{IsSettled}
use Rattle.heap_audit.specs.Heaps.{slot, image_of, HasNullFields, IsLawful, Within, HasFieldsWithin, IsInRange, HasFittingPayloads}
use Rattle.plain_audit.proofs.Numbers.{seat_alone}
use Rattle.plain_audit.proofs.Within.{place_within, entry_within}
use Rattle.plain_audit.proofs.ImageNumbers.{entries_are, none_other, strong_count_is, live_to, live_from}

module _ (p : Plain) (image : Heap) (is : IsImage p image) (fits : List ℕ → Type 0) (heap : IsHeap fits p) where
  -- every name is in range
  abbrev slots : ℕ
  slots = length p.slots

  fields_within : (k : ℕ) → k < slots → HasFieldsWithin slots (image_of image (slot k))
  fields_within k lt =
      subst (HasFieldsWithin slots) (sym (is.slots (slot k) lt)) (record {
        first = place_within p heap.sound heap.seats heap.disposals (Field (slot k) 0) (slot_at p (slot k)).first lt refl;
        second = place_within p heap.sound heap.seats heap.disposals (Field (slot k) 1) (slot_at p (slot k)).second lt refl;
        weak = place_within p heap.sound heap.seats heap.disposals (WeakField (slot k)) (slot_at p (slot k)).weak_field lt refl;
      })

  cells_within : All (λ o. word_of o ≤ slots) p.cells
  cells_within = All-from_get_or (λ o. word_of o ≤ slots) p.cells None (λ k lt. place_within p heap.sound heap.seats heap.disposals (Cell k) (get_or p.cells k None) lt refl)

  weak_cells_within : All (λ o. word_of o ≤ slots) p.weak_cells
  weak_cells_within = All-from_get_or (λ o. word_of o ≤ slots) p.weak_cells None (λ k lt. place_within p heap.sound heap.seats heap.disposals (WeakCell k) (get_or p.weak_cells k None) lt refl)

  in_range : (n : ℕ) → length image.slots.items ≡ n → n ≡ slots → IsInRange image
  in_range n e f =
      let many : length image.slots.items ≡ slots = e ∙ f in record {
        fields = All-from_get_or (HasFieldsWithin (length image.slots.items)) image.slots.items free_image
            (λ k lt. subst (λ (m : ℕ). HasFieldsWithin m (image_of image (slot k))) (sym many) (fields_within k (omega (arith, lt, many))));
        cells = subst (λ (m : ℕ). All (Within m) image.cells.items) (sym many)
            (subst (All (Within slots)) (sym is.cells) (All-map (Within slots) word_of p.cells cells_within));
        weak_cells = subst (λ (m : ℕ). All (Within m) image.weak_cells.items) (sym many)
            (subst (All (Within slots)) (sym is.weak_cells) (All-map (Within slots) word_of p.weak_cells weak_cells_within));
        deferred = subst (λ (m : ℕ). All (λ (e : Entry). e.1.0 < m) image.deferred.items) (sym many)
            (subst (All (λ (e : Entry). e.1.0 < slots)) (sym is.deferred)
            (λ k d lt. entry_within p heap.sound heap.seats heap.disposals k d lt));
      }

  pub image_in_range : IsInRange image
  image_in_range = in_range slots is.size refl

  module _ (settled : IsSettled p) where
    -- nothing is dying
    none_ended : (s : SlotId) → stage_at p s ≢ Ended
    none_ended s ended =
        let none : dying_times p s ≡ 0 = seat_alone (λ v. times s v.dying) p heap.seats ∙ (ap (times s) settled.destroyed ∙ times_none s) in
        omega (arith, (heap.sound.lawful.dying s).0 ended, none)

    null_fields : (s : SlotId) → s.0 < slots → stage_at p s ≢ Live → HasNullFields (image_of image s)
    null_fields s lt other =
        let nulls = heap.sound.lawful.nulls s (other, none_ended s) in
        subst HasNullFields (sym (is.slots s lt)) (record { first = ap word_of nulls.0; second = ap word_of nulls.1; weak = ap word_of nulls.2 })

    pub image_lawful : IsLawful image
    image_lawful s at =
        let lt : s.0 < slots = omega (arith, at, is.size) in
        let count = strong_count_is p image is fits heap s in
        let all = entries_are p image is fits heap s in
        record {
          counted = λ live. omega (arith, count, settled.ended s (live_to p image is fits heap s live));
          covered = λ live. omega (arith, count, all);
          bare = λ dead. null_fields s lt (λ live. dead (live_from p image is fits heap settled s live));
          alone = λ dead. omega (arith, all, none_other p image is fits heap s (λ live. dead (live_from p image is fits heap settled s live)));
        }

  pub image_fits : HasFittingPayloads fits image
  image_fits =
      All-from_get_or (λ x. x.strong < 2 ^ 63 → fits x.payload) image.slots.items free_image (λ k at word.
      let lt : k < slots = omega (arith, at, is.size) in
      subst fits (sym (ap (λ (x : SlotImage). x.payload) (is.slots (slot k) lt)))
      (heap.payloads (slot k) (inl (live_to p image is fits heap (slot k) (at, word)))))
