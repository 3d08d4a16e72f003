-- A word and the one that names the same slot by its place count for the same slot.
use Rattle.std.proofs.Common.{◌≡◌, ◌≢◌, ℕ, zero, suc, ◌+◌, ◌-◌, ◌<◌, ◌≤◌, Bool, true, false, List, [], ◌∷◌, length, map, count_by, sum_by, refl, ap, sym, ◌∙◌, subst, arith, inl, inr}
use Rattle.std.specs.Prelude.{◌==◌, ◌&&◌, ◌⊎◌, slice_index, if◌then◌else◌}
use Rattle.std.proofs.lemmas.Bool.{cases_eq, eq-eqb, ne_eqb}
use Rattle.std.proofs.lemmas.List.Sums.{sum_by-cons}
use Rattle.plain_audit.specs.plain_state.declared.image.SlotImage.{SlotImage}
use Rattle.plain_audit.specs.plain_state.declared.slot.Kind.{Kind}
use Rattle.plain_audit.specs.plain_state.declared.slot.SlotId.{SlotId}
use Rattle.plain_audit.specs.plain_state.Lists.{Entry, entry_times, is_entry, is_slot, same_kind}
use Rattle.plain_audit.specs.heap_audit.Heaps.{fields_holding, held, names, slot}
use Rattle.heap_audit.proofs.Holding.{held_here, held_not}
use Rattle.taken_audit.specs.Placed.{Rises, at, placed, placed_entry, placed_image, placed_slot}
use Rattle.taken_audit.specs.Parts.{IsNamed, Stands}
use Rattle.taken_audit.proofs.Places.{null_place, place_is, place_once}

abbrev pub Every : {A : Type 0} → (A → Type 0) → List A → Type 0
Every P [] = Unit {0}
Every P (x ∷ xs) = P x × Every P xs

module _ (b : ℕ) (taken : List SlotId) (rises : Rises 0 taken b) where
  -- the place of a slot of the list
  pub place_of : (s : SlotId) (is : Stands taken s) → placed taken (s.0 + 1) ≡ is.0 + 1
  place_of s is =
      ap (λ (x : SlotId). placed taken (x.0 + 1)) (sym is.2)
      ∙ place_is 0 b taken is.0 rises is.1

  -- the word that names a slot by its place is within the list
  pub named_within : (word : ℕ) → IsNamed taken word → placed taken word ≤ length taken
  named_within word is = elim is [
    | inl null ↦
        let none = ap (placed taken) null ∙ null_place 0 b taken rises in omega (arith, none)
    | inr some ↦
        let same = ap (placed taken) some.2 ∙ place_of some.0 some.1 in
        omega (arith, same, some.1.1)
  ]

  pub slot_within : (s : SlotId) → Stands taken s → (placed_slot taken s).0 < length taken
  slot_within s is = let same = place_of s is in omega (arith, same, is.1)

  module _ (k : ℕ) (lt : k < length taken) where
    here_or : (s : SlotId) (is : Stands taken s)
        → ((is.0 ≡ k) × (s.0 ≡ (at taken k).0)) ⊎ ((is.0 ≢ k) × (s.0 ≢ (at taken k).0))
    here_or s is = elim (cases_eq is.0 k) [
      | inl same ↦ inl (same, ap (λ (x : SlotId). x.0) (sym is.2) ∙ ap (λ (j : ℕ). (at taken j).0) same)
      | inr other ↦ inr (
        other,
        λ e.
            other (place_once 0 b taken is.0 k rises is.1 lt (ap (λ (x : SlotId). x.0) is.2 ∙ e)),
      )
    ]

    pub held_same : (word : ℕ) → IsNamed taken word
        → held (slot k) (placed taken word) ≡ held (at taken k) word
    held_same word is = elim is [
      | inl null ↦
          let none = ap (placed taken) null ∙ null_place 0 b taken rises in
          held_not (slot k) (placed taken word) (λ e. omega (arith, e, none))
          ∙ sym (held_not (at taken k) word (λ e. omega (arith, e, null)))
      | inr some ↦
          let same = ap (placed taken) some.2 ∙ place_of some.0 some.1 in
          elim (here_or some.0 some.1) [
            | inl here ↦
                held_here (slot k) (placed taken word) (omega (arith, same, here.0))
                ∙ sym (held_here (at taken k) word (omega (arith, some.2, here.1)))
            | inr other ↦
                held_not (slot k) (placed taken word) (λ e. other.0 (omega (arith, e, same)))
                ∙ sym (held_not (at taken k) word (λ e. other.1 (omega (arith, e, some.2))))
          ]
    ]

    pub fields_same : (x : SlotImage) → IsNamed taken (slice_index x.fields 0)
        → IsNamed taken (slice_index x.fields 1)
        → fields_holding (slot k) (placed_image taken x) ≡ fields_holding (at taken k) x
    unfolding fields_holding
    fields_same x first second =
        let f = held_same (slice_index x.fields 0) first in
        let s = held_same (slice_index x.fields 1) second in omega (arith, f, s)

    pub words_same : (words : List ℕ) → Every (IsNamed taken) words
        → count_by (names (slot k)) (map (placed taken) words) ≡ count_by (names (at taken k)) words
    unfolding held
    words_same [] each = refl
    words_same (w ∷ ws) each =
        let here : (if names (slot k) (placed taken w) then 1 else 0)
        ≡ (if names (at taken k) w then 1 else 0) = held_same w each.0 in
        let rest = words_same ws each.1 in
        let new = sum_by-cons (λ (v : ℕ). if names (slot k) v then 1 else 0) (placed taken w)
        (map (placed taken) ws) in
        let old = sum_by-cons (λ (v : ℕ). if names (at taken k) v then 1 else 0) w ws in
        new ∙ ((λ i. here i + rest i) ∙ sym old)

    slot_same : (s : SlotId) → Stands taken s
        → is_slot (slot k) (placed_slot taken s) ≡ is_slot (at taken k) s
    slot_same s is =
        let same = place_of s is in
        elim (here_or s is) [
          | inl here ↦
              eq-eqb (placed_slot taken s).0 k (omega (arith, same, here.0))
              ∙ sym (eq-eqb s.0 (at taken k).0 here.1)
          | inr other ↦
              ne_eqb (placed_slot taken s).0 k (λ e. other.0 (omega (arith, e, same)))
              ∙ sym (ne_eqb s.0 (at taken k).0 other.1)
        ]

    pub entries_same : (kind : Kind) (es : List Entry) → Every (λ (e : Entry). Stands taken e.1) es
        → entry_times kind (slot k) (map (placed_entry taken) es) ≡ entry_times kind (at taken k) es
    unfolding entry_times
    entries_same kind [] each = refl
    entries_same kind (e ∷ es) each =
        let test : is_entry kind (slot k) (placed_entry taken e) ≡ is_entry kind (at taken k) e =
        ap (λ (b : Bool). same_kind kind e.0 && b) (slot_same e.1 each.0) in
        let rest = entries_same kind es each.1 in
        let new = sum_by-cons (λ (x : Entry). if is_entry kind (slot k) x then 1 else 0)
        (placed_entry taken e) (map (placed_entry taken) es) in
        let old = sum_by-cons (λ (x : Entry). if is_entry kind (at taken k) x then 1 else 0) e es in
        new ∙ ((λ i. (if test i then 1 else 0) + rest i) ∙ sym old)
