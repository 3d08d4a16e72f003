-- The slots of a state that aren't free: they rise, none is left out, and sums and counts over all slots go over them.
use Rattle.std.proofs.Common.{◌≡◌, ◌≢◌, ℕ, zero, suc, ◌+◌, ◌<◌, ◌≤◌, Bool, true, false, List, [], ◌∷◌, ◌++◌, length, get_or, take, sum_by, refl, ap, sym, ◌∙◌, subst, arith, inl, inr}
use Rattle.std.specs.Prelude.{◌⊎◌, if◌then◌else◌}
use Rattle.std.proofs.lemmas.Bool.{cases_eq}
use Rattle.std.proofs.lemmas.List.{append-nil, get_or_append_left, length-append}
use Rattle.std.proofs.lemmas.List.Sums.{sum_by-append, sum_by-cons}
use Rattle.std.proofs.Math.Seq.{get_or-append_seam, take-length, take-suc}
use Rattle.plain_audit.specs.plain_state.declared.slot.PlainSlot.{PlainSlot}
use Rattle.plain_audit.specs.plain_state.declared.slot.SlotId.{SlotId}
use Rattle.plain_audit.specs.plain_state.declared.slot.Stage.{Stage}
use Rattle.plain_audit.specs.plain_state.declared.slot.Stage.TheVariants.{Free, Blank, Live, Ended, Husk}
use Rattle.plain_audit.specs.plain_state.References.{over_slots}
use Rattle.plain_audit.specs.plain_state.State.{Plain, new_slot, slot_at, stage_at}
use Rattle.plain_audit.specs.heap_audit.Heaps.{slot}
use Rattle.plain_audit.specs.heap_audit.Reached.{HowMany}
use Rattle.taken_audit.specs.Placed.{Rises, at}
use Rattle.acquire_retire.specs.Taken.{is_taken, taken_below}
use Rattle.taken_audit.proofs.Places.{rises_more, rises_on}

-- a slot is free, or it isn't
pub free_or : (x : Stage) → ((x ≡ Free) × (is_taken x ≡ false)) ⊎ (is_taken x ≡ true)
free_or Free = inl (refl, refl)
free_or Blank = inr refl
free_or Live = inr refl
free_or Ended = inr refl
free_or Husk = inr refl

pub not_free : (x : Stage) → x ≢ Free → is_taken x ≡ true
not_free x other = elim (free_or x) [ inl f ↦ absurd (other f.0) | inr t ↦ t ]

module _ (p : Plain) (n : ℕ) where
  abbrev last : SlotId
  last = record { 0 = n }

  taken_yes : is_taken (stage_at p last) ≡ true → taken_below p (suc n) ≡ taken_below p n ++ last ∷ []
  taken_yes is = ap (λ (b : Bool). taken_below p n ++ (if b then last ∷ [] else [])) is

  taken_no : is_taken (stage_at p last) ≡ false → taken_below p (suc n) ≡ taken_below p n
  taken_no is =
      ap (λ (b : Bool). taken_below p n ++ (if b then last ∷ [] else [])) is
      ∙ append-nil (taken_below p n)

module _ (p : Plain) where
  pub rises_taken : (n : ℕ) → Rises 0 (taken_below p n) n
  rises_taken zero = omega arith
  rises_taken (suc n) = elim (free_or (stage_at p (last p n))) [
    | inl f ↦ subst (λ (ss : List SlotId). Rises 0 ss (suc n)) (sym (taken_no p n f.1))
        (rises_on 0 n (suc n) (taken_below p n) (rises_taken n) (omega arith))
    | inr t ↦ subst (λ (ss : List SlotId). Rises 0 ss (suc n)) (sym (taken_yes p n t))
        (rises_more 0 n (taken_below p n) (last p n) (rises_taken n) (omega arith))
  ]

  -- in the list
  abbrev pub StandsIn : ℕ → SlotId → Type 0
  StandsIn n s = (k : ℕ) × (k < length (taken_below p n)) × (at (taken_below p n) k ≡ s)

  stands_on : (n : ℕ) (s : SlotId) → StandsIn n s → (more : List SlotId)
      → (k : ℕ) × (k < length (taken_below p n ++ more)) × (at (taken_below p n ++ more) k ≡ s)
  stands_on n s is more = (
    is.0,
    omega (arith, is.1, length-append (taken_below p n) more),
    get_or_append_left (taken_below p n) more (slot 0) is.0 is.1 ∙ is.2,
  )

  pub stands : (n : ℕ) (s : SlotId) → s.0 < n → is_taken (stage_at p s) ≡ true → StandsIn n s
  stands zero s below is = absurd (omega (arith, below))
  stands (suc n) s below is = elim (cases_eq s.0 n) [
    | inl here ↦
        let same : last p n ≡ s = λ i. record { 0 = sym here i } in
        let t : is_taken (stage_at p (last p n)) ≡ true =
        ap (λ (x : SlotId). is_taken (stage_at p x)) same ∙ is in
        subst (λ (ss : List SlotId). (k : ℕ) × (k < length ss) × (at ss k ≡ s))
        (sym (taken_yes p n t)) (
          length (taken_below p n),
          omega (arith, length-append (taken_below p n) (last p n ∷ [])),
          get_or-append_seam (taken_below p n) (last p n) [] (slot 0) ∙ same,
        )
    | inr other ↦
        stands_on n s (stands n s (omega (arith, below, other)) is)
        (if is_taken (stage_at p (last p n)) then last p n ∷ [] else [])
  ]

  -- a number that free slots don't have, added up
  module _ (f : PlainSlot → ℕ)
      (none : (s : SlotId) → stage_at p s ≡ Free → f (slot_at p s) ≡ 0) where
    sum_below : (n : ℕ) → n ≤ length p.slots
        → sum_by (λ s. f (slot_at p s)) (taken_below p n) ≡ sum_by f (take n p.slots)
    sum_below zero le = refl
    sum_below (suc n) le =
        let g : SlotId → ℕ = λ s. f (slot_at p s) in
        let rest = sum_below n (omega (arith, le)) in
        let one : sum_by f (slot_at p (last p n) ∷ []) ≡ f (slot_at p (last p n)) =
        (let e = sum_by-cons f (slot_at p (last p n)) [] in omega (arith, e)) in
        let all : sum_by f (take (suc n) p.slots)
        ≡ sum_by f (take n p.slots) + f (slot_at p (last p n)) =
        (let e = ap (sum_by f) (take-suc p.slots n new_slot (omega (arith, le))) in
        let s = sum_by-append f (take n p.slots) (slot_at p (last p n) ∷ []) in
        omega (arith, e, s, one)) in
        elim (free_or (stage_at p (last p n))) [
          | inl free ↦
              let e = ap (sum_by g) (taken_no p n free.1) in
              let z = none (last p n) free.0 in omega (arith, e, rest, all, z)
          | inr t ↦
              let e = ap (sum_by g) (taken_yes p n t) in
              let s = sum_by-append g (taken_below p n) (last p n ∷ []) in
              let o : sum_by g (last p n ∷ []) ≡ g (last p n) =
              (let c = sum_by-cons g (last p n) [] in omega (arith, c)) in
              omega (arith, e, s, o, rest, all)
        ]

    pub sum_taken : sum_by (λ s. f (slot_at p s)) (taken_below p (length p.slots))
        ≡ over_slots f p.slots
    unfolding over_slots
    sum_taken =
        sum_below (length p.slots) (omega arith) ∙ ap (sum_by f) (take-length p.slots)

  -- as many places of the list have a property as slots have another one, where these go together
  module _ (P Q : ℕ → Type 0)
      (dead : (k : ℕ) → is_taken (stage_at p (slot k)) ≡ false → Q k → ⊥) where
    pub many_taken : (n many : ℕ)
        → ((k : ℕ) → k < length (taken_below p n) → P k → Q (at (taken_below p n) k).0)
        → ((k : ℕ) → k < length (taken_below p n) → Q (at (taken_below p n) k).0 → P k)
        → HowMany P (length (taken_below p n)) many → HowMany Q n many
    many_taken zero many to from h = h
    many_taken (suc n) many to from h =
        let before : List SlotId = taken_below p n in
        elim (free_or (stage_at p (last p n))) [
          | inl free ↦
              let same = taken_no p n free.1 in
              inr (
                dead n free.1,
                many_taken n many
                    (subst (λ (ss : List SlotId). (k : ℕ) → k < length ss → P k → Q (at ss k).0) same to)
                    (subst (λ (ss : List SlotId). (k : ℕ) → k < length ss → Q (at ss k).0 → P k) same from)
                    (subst (λ (ss : List SlotId). HowMany P (length ss) many) same h),
              )
          | inr t ↦
              let same = taken_yes p n t in
              let size : length (before ++ last p n ∷ []) ≡ suc (length before) =
              (let e = length-append before (last p n ∷ []) in omega (arith, e)) in
              let end : at (before ++ last p n ∷ []) (length before) ≡ last p n =
              get_or-append_seam before (last p n) [] (slot 0) in
              let to_all =
              subst (λ (ss : List SlotId). (k : ℕ) → k < length ss → P k → Q (at ss k).0) same to in
              let from_all =
              subst (λ (ss : List SlotId). (k : ℕ) → k < length ss → Q (at ss k).0 → P k) same from in
              let to_before : (k : ℕ) → k < length before → P k → Q (at before k).0 = λ k lt has.
              subst (λ (s : SlotId). Q s.0)
              (get_or_append_left before (last p n ∷ []) (slot 0) k lt)
              (to_all k (omega (arith, lt, size)) has) in
              let from_before : (k : ℕ) → k < length before → Q (at before k).0 → P k = λ k lt has.
              from_all k (omega (arith, lt, size))
              (subst (λ (s : SlotId). Q s.0)
              (sym (get_or_append_left before (last p n ∷ []) (slot 0) k lt)) has) in
              let counted : HowMany P (suc (length before)) many =
              subst (λ (ss : ℕ). HowMany P ss many) size
              (subst (λ (ss : List SlotId). HowMany P (length ss) many) same h) in
              elim counted [
                | inl one ↦ inl (
                  one.0,
                  subst (λ (s : SlotId). Q s.0) end
                      (to_all (length before) (omega (arith, size)) one.1),
                  many_taken n one.0 to_before from_before one.2,
                  one.3,
                )
                | inr other ↦ inr (
                  λ q. other.0 (from_all (length before) (omega (arith, size))
                      (subst (λ (s : SlotId). Q s.0) (sym end) q)),
                  many_taken n many to_before from_before other.1,
                )
              ]
        ]
