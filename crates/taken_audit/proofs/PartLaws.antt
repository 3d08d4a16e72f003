-- A part of a settled heap obeys the law of heaps: what an audit asks.
use Rattle.std.proofs.Common.{◌≡◌, ◌≢◌, ℕ, zero, suc, ◌^◌, ◌<◌, ◌≤◌, List, [], ◌∷◌, length, get_or, map, All, refl, ap, sym, ◌∙◌, subst, arith, inl}
use Rattle.std.proofs.lemmas.List.Elements.{All-cons, All-from_get_or, All-map, All-nil}
use Rattle.plain_audit.specs.plain_state.declared.image.Heap.{Heap}
use Rattle.plain_audit.specs.plain_state.declared.image.SlotImage.{SlotImage}
use Rattle.plain_audit.specs.plain_state.declared.slot.SlotId.{SlotId}
use Rattle.plain_audit.specs.plain_state.declared.slot.Stage.TheVariants.{Ended, Live}
use Rattle.plain_audit.specs.plain_state.Images.{free_image, image_at}
use Rattle.plain_audit.specs.plain_state.Lists.{Entry, times}
use Rattle.plain_audit.specs.plain_state.State.{Plain, seat_at, slot_at, stage_at}
use Rattle.plain_audit.specs.plain_state.References.{dying_times}
use Rattle.plain_audit.specs.plain_state.Steps.{word_of}
use Rattle.heap_audit.proofs.Below.plain_state_Kit.{times_none}
use Rattle.plain_audit.specs.plain_store.Heaps.{IsHeap}
use Rattle.plain_audit.specs.plain_store.Settling.{IsSettled}
use Rattle.plain_audit.specs.heap_audit.Heaps.{HasFieldsWithin, HasFittingPayloads, HasNullFields, IsInRange, IsLawful, Within, image_of, slot}
use Rattle.plain_audit.proofs.Numbers.{seat_alone}
use Rattle.taken_audit.specs.Parts.{IsNamed, IsPart, Stands}
use Rattle.taken_audit.specs.Placed.{at, placed, placed_entry}
use Rattle.acquire_retire.specs.Taken.{taken_slots}
use Rattle.taken_audit.proofs.Counted.{entries_are, first_named, image_is, inside, live_from, live_to, none_other, rises, second_named, size, strong_count_is, taken, weak_named}
use Rattle.taken_audit.proofs.Given.{cells_named, entries_stand, weak_cells_named}
use Rattle.taken_audit.proofs.Named.{Every, named_within, slot_within}
use Rattle.taken_audit.proofs.Places.{null_place}

all_of : {A : Type 0} (P Q : A → Type 0) (xs : List A) → ((x : A) → P x → Q x) → Every P xs
    → All Q xs
all_of P Q [] follows each = All-nil Q
all_of P Q (x ∷ xs) follows each =
    All-cons Q x xs (follows x each.0) (all_of P Q xs follows each.1)

module _ (p : Plain) (fits : List ℕ → Type 0) (heap : IsHeap fits p) (part : Heap)
    (is : IsPart p (taken_slots p) part) where
  abbrev many : ℕ
  many = length (taken p fits heap part is)

  named : (word : ℕ) → IsNamed (taken_slots p) word → placed (taken_slots p) word ≤ many
  named = named_within (length p.slots) (taken_slots p) (rises p fits heap part is)

  fields_within : (k : ℕ) → k < many → HasFieldsWithin many (image_of part (slot k))
  fields_within k lt =
      let s = at (taken_slots p) k in
      let there = inside p fits heap part is k lt in
      subst (HasFieldsWithin many) (sym (image_is p fits heap part is k lt)) (record {
        first = named (word_of (slot_at p s).first) (first_named p fits heap part is s there);
        second = named (word_of (slot_at p s).second) (second_named p fits heap part is s there);
        weak = named (word_of (slot_at p s).weak_field) (weak_named p fits heap part is s there);
      })

  cells_within : (words : List ℕ) → Every (IsNamed (taken_slots p)) words
      → All (Within many) (map (placed (taken_slots p)) words)
  cells_within words each = All-map (Within many) (placed (taken_slots p)) words
      (all_of (IsNamed (taken_slots p)) (λ w. placed (taken_slots p) w ≤ many) words named each)

  entries_within : (es : List Entry) → Every (λ (e : Entry). Stands (taken_slots p) e.1) es
      → All (λ (e : Entry). e.1.0 < many) (map (placed_entry (taken_slots p)) es)
  entries_within es each =
      All-map (λ (e : Entry). e.1.0 < many) (placed_entry (taken_slots p)) es
      (all_of (λ (e : Entry). Stands (taken_slots p) e.1)
      (λ e. (placed_entry (taken_slots p) e).1.0 < many) es
      (λ e stands. slot_within (length p.slots) (taken_slots p) (rises p fits heap part is) e.1 stands)
      each)

  in_range : (n : ℕ) → n ≡ many → length part.slots.items ≡ n → IsInRange part
  in_range n e count =
      let all : length part.slots.items ≡ many = count ∙ e in record {
        fields = All-from_get_or (HasFieldsWithin (length part.slots.items)) part.slots.items
            free_image
            (λ k lt. subst (λ (m : ℕ). HasFieldsWithin m (image_of part (slot k))) (sym all)
            (fields_within k (omega (arith, lt, all))));
        cells = subst (λ (m : ℕ). All (Within m) part.cells.items) (sym all)
            (subst (All (Within many)) (sym is.cells)
            (cells_within (map word_of p.cells)
            (cells_named p heap.sound heap.seats heap.disposals)));
        weak_cells = subst (λ (m : ℕ). All (Within m) part.weak_cells.items) (sym all)
            (subst (All (Within many)) (sym is.weak_cells)
            (cells_within (map word_of p.weak_cells)
            (weak_cells_named p heap.sound heap.seats heap.disposals)));
        deferred = subst (λ (m : ℕ). All (λ (e : Entry). e.1.0 < m) part.deferred.items) (sym all)
            (subst (All (λ (e : Entry). e.1.0 < many)) (sym is.deferred)
            (entries_within (seat_at p 0).deferred
            (entries_stand p heap.sound heap.seats heap.disposals)));
      }

  pub part_in_range : IsInRange part
  part_in_range = in_range many refl (size p fits heap part is)

  module _ (settled : IsSettled p) where
    none_ended : (s : SlotId) → stage_at p s ≢ Ended
    none_ended s ended =
        let none : dying_times p s ≡ 0 = seat_alone (λ v. times s v.dying) p heap.seats
        ∙ (ap (times s) settled.destroyed ∙ times_none s) in
        let some = (heap.sound.lawful.dying s).0 ended in omega (arith, some, none)

    null_fields : (k : ℕ) → k < many → stage_at p (at (taken_slots p) k) ≢ Live
        → HasNullFields (image_of part (slot k))
    null_fields k lt other =
        let s = at (taken_slots p) k in
        let nulls = heap.sound.lawful.nulls s (other, none_ended s) in
        subst HasNullFields (sym (image_is p fits heap part is k lt)) (record {
          first = ap (λ o. placed (taken_slots p) (word_of o)) nulls.0 ∙ null_is;
          second = ap (λ o. placed (taken_slots p) (word_of o)) nulls.1 ∙ null_is;
          weak = ap (λ o. placed (taken_slots p) (word_of o)) nulls.2 ∙ null_is;
        })
      where
        null_is : placed (taken_slots p) 0 ≡ 0
        null_is = null_place 0 (length p.slots) (taken_slots p) (rises p fits heap part is)

    pub part_lawful : IsLawful part
    part_lawful s there =
        let count = size p fits heap part is in
        let lt : s.0 < many = omega (arith, there, count) in
        let strong = strong_count_is p fits heap part is s.0 lt in
        let all = entries_are p fits heap part is s.0 lt in
        record {
          counted = λ live. let e = settled.ended (at (taken_slots p) s.0)
              (live_to p fits heap part is s.0 lt live) in omega (arith, strong, e);
          covered = λ live. omega (arith, strong, all);
          bare = λ dead. null_fields s.0 lt
              (λ live. dead (live_from p fits heap part is s.0 lt settled live));
          alone = λ dead. let none = none_other p fits heap part is s.0 lt
              (λ live. dead (live_from p fits heap part is s.0 lt settled live)) in
              omega (arith, all, none);
        }

  pub part_fits : HasFittingPayloads fits part
  part_fits = All-from_get_or (λ x. x.strong < 2 ^ 63 → fits x.payload) part.slots.items free_image
      (λ k there word.
      let lt : k < many = (let count = size p fits heap part is in omega (arith, there, count)) in
      subst fits (sym (ap (λ (x : SlotImage). x.payload) (image_is p fits heap part is k lt)))
      (heap.payloads (at (taken_slots p) k)
      (inl (live_to p fits heap part is k lt (there, word)))))
