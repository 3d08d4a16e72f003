-- Going back: among finitely many slots, none of which leads back to itself, going from each to one that leads to it
-- comes to an end.
use Rattle.std.specs.Prelude.{map}
use Rattle.std.specs.List.{AllByRecursion, IsDistinct, list_any}
use Rattle.std.proofs.Common.{◌≡◌, ◌⊎◌, ⊎_elim, ℕ, zero, suc, ◌+◌, ◌<◌, ◌≤◌, true, false, List, [], ◌∷◌, length, sym, subst, ◌∙◌, ap, arith, eqb, Bool, ◌||◌}
use Rattle.std.proofs.lemmas.Bool.{cases_eq, ne_eqb}
use Rattle.std.proofs.lemmas.List.{length-map}
use Rattle.std.proofs.lemmas.Map.Keys.{IsDistinct-cons}
use Rattle.std.proofs.lemmas.Map.Steps.{length-le_from_distinct_below}
use Rattle.plain_audit.specs.plain_state.declared.slot.SlotId.{SlotId}
use Rattle.plain_audit.proofs.Below.plain_state_Kit.{slot_is}
use Rattle.directory_law.specs.Views.{Each}
use Rattle.plain_audit.specs.heap_audit.Paths.{Path}

abbrev numbers : List SlotId → List ℕ
numbers xs = map (λ (x : SlotId). x.0) xs

module _ (n : ℕ) (P : SlotId → Type 0) (R : SlotId → SlotId → Type 0) (Q : SlotId → Type 0)
    (low : (s : SlotId) → P s → s.0 < n)
    (acyclic : (s : SlotId) (ys : List SlotId) → P s → Path R s ys s → ⊥)
    (step : (s : SlotId) → P s → Q s ⊎ ((t : SlotId) × P t × R t s × (Q t → Q s))) where
  -- s leads to each of the slots
  abbrev LeadsToEach : SlotId → List SlotId → Type 0
  LeadsToEach s [] = Unit {0}
  LeadsToEach s (x ∷ xs) = ((ys : List SlotId) × Path R s ys x) × LeadsToEach s xs

  one_before : (t s : SlotId) (xs : List SlotId) → R t s → LeadsToEach s xs → LeadsToEach t xs
  one_before t s [] r leads = tt
  one_before t s (x ∷ xs) r leads =
      ((s ∷ leads.0.0, (r, leads.0.1)), one_before t s xs r leads.1)

  -- so it is none of them
  apart : (s : SlotId) (xs : List SlotId) → P s → LeadsToEach s xs
      → AllByRecursion (λ (y : ℕ). eqb s.0 y ≡ false) (numbers xs)
  apart s [] here leads = tt
  apart s (x ∷ xs) here leads = (
    ne_eqb s.0 x.0 (λ e. acyclic s leads.0.0 here
        (subst (λ (y : SlotId). Path R s leads.0.0 y) (sym (slot_is s x e)) leads.0.1)),
    apart s xs here leads.1,
  )

  below : (xs : List SlotId) → Each P xs → (q : ℕ) → list_any (eqb q) (numbers xs) ≡ true → q < n
  below [] all q is = absurd cc
  below (x ∷ xs) all q is = ⊎_elim
      (λ (e : q ≡ x.0). let l = low x all.0 in omega arith)
      (λ ne. below xs all.1 q
      (sym (ap (λ (b : Bool). b || list_any (eqb q) (numbers xs)) (ne_eqb q x.0 ne)) ∙ is))
      (cases_eq q x.0)

  few : (xs : List SlotId) → Each P xs → IsDistinct eqb (numbers xs) → length xs ≤ n
  few xs all distinct =
      let many = length-le_from_distinct_below (numbers xs) n distinct (below xs all) in
      let same : length (numbers xs) ≡ length xs = length-map xs (λ (x : SlotId). x.0) in
      omega arith

  back : (fuel : ℕ) (s : SlotId) (seen : List SlotId) → P s → Each P seen → LeadsToEach s seen
      → IsDistinct eqb (numbers seen) → n ≤ fuel + length seen → Q s
  back zero s seen here all leads distinct enough =
      let more = few (s ∷ seen) (here, all)
      (IsDistinct-cons eqb s.0 (numbers seen) (apart s seen here leads) distinct) in
      absurd (omega arith)
  back (suc fuel) s seen here all leads distinct enough = ⊎_elim
      (λ (there : Q s). there)
      (λ on. on.3 (back fuel on.0 (s ∷ seen) on.1 (here, all)
      (([], on.2), one_before on.0 s seen on.2 leads)
      (IsDistinct-cons eqb s.0 (numbers seen) (apart s seen here leads) distinct) (omega arith)))
      (step s here)

  pub going_back : (s : SlotId) → P s → Q s
  unfolding IsDistinct
  going_back s here = back n s [] here tt tt tt (omega arith)
