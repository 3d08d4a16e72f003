-- Searches through a list of slots, and how often a slot stands in it.
use Rattle.std.proofs.Common.{◌≡◌, ◌≢◌, ⊎_elim, ℕ, zero, suc, ◌<◌, Bool, true, false, eqb, List, [], ◌∷◌, length, get_or, refl, ap, ◌∙◌, arith}
use Rattle.std.specs.Prelude.{◌↔◌, nat_lt, remove, IsTrue}
use Rattle.std.specs.List.{list_any}
use Rattle.std.proofs.lemmas.Bool.{cases_eq}
use Rattle.std.proofs.lemmas.Bool.Decides.{nat_tests}
use Rattle.core_events.specs.plain_state.declared.slot.SlotId.{SlotId}
use Rattle.core_events.specs.plain_state.Lists.{times, is_slot}
use Rattle.core_events.proofs.Below.plain_state_Kit.{held_same, held_other, times_none, times_cons}
use Rattle.core_events.specs.Views.{without}

any_slot : (s : SlotId) (xs : List SlotId)
    → list_any (λ (x : SlotId). eqb x.0 s.0) xs ≡ nat_lt 0 (times s xs)
any_slot s [] = let z = times_none s in grind (arith, nat_tests)
any_slot s (x ∷ xs) =
    let c = times_cons s x xs in
    let ih = any_slot s xs in
    ⊎_elim
    (λ (e : x.0 ≡ s.0).
    let o = held_same s x e in
    let t : eqb x.0 s.0 ≡ true = grind (arith, nat_tests) in rw t (grind (arith, nat_tests)))
    (λ (ne : x.0 ≢ s.0).
    let o = held_other s x ne in
    let t : eqb x.0 s.0 ≡ false = grind (arith, nat_tests) in
    let z : times s (x ∷ xs) ≡ times s xs = omega arith in rw (t, z) ih)
    (cases_eq x.0 s.0)

-- a search finds a slot exactly where it stands in the list
pub slot_found : (s : SlotId) (xs : List SlotId) (r : Bool)
    → r ≡ list_any (λ (x : SlotId). eqb x.0 s.0) xs
    → IsTrue r ↔ (0 < times s xs)
slot_found s xs r e =
    let t : r ≡ nat_lt 0 (times s xs) = e ∙ any_slot s xs in rw t (grind (arith, nat_tests))

-- where the list ends
abbrev pub past : SlotId
past = record { 0 = 0 }

-- the first s is taken out by its place
pub without_at : (s : SlotId) (xs : List SlotId) (i : ℕ) → i < length xs
    → (get_or xs i past).0 ≡ s.0
    → ((k : ℕ) → k < i → (get_or xs k past).0 ≢ s.0) → without s xs ≡ remove xs i
without_at s [] i h e before = absurd (omega arith)
without_at s (x ∷ xs) zero h e before =
    let t : is_slot s x ≡ true = grind (arith, nat_tests) in rw t refl
without_at s (x ∷ xs) (suc i) h e before =
    let ne : x.0 ≢ s.0 = before 0 (omega arith) in
    let t : is_slot s x ≡ false = grind (arith, nat_tests) in
    rw t
    (ap (λ (ys : List SlotId). x ∷ ys)
    (without_at s xs i (omega arith) e (λ k lt. before (suc k) (omega arith))))

-- where there is none, the list stays
pub without_none : (s : SlotId) (xs : List SlotId)
    → ((k : ℕ) → k < length xs → (get_or xs k past).0 ≢ s.0)
    → xs ≡ without s xs
without_none s [] none = refl
without_none s (x ∷ xs) none =
    let ne : x.0 ≢ s.0 = none 0 (omega arith) in
    let t : is_slot s x ≡ false = grind (arith, nat_tests) in
    rw t
    (ap (λ (ys : List SlotId). x ∷ ys) (without_none s xs (λ k lt. none (suc k) (omega arith))))
