-- Sums over the members of a list of slots, and over lists of lists.
use Rattle.std.specs.Prelude.{map, sum_by, Some}
use Rattle.std.specs.List.{flat_map}
use Rattle.std.proofs.Common.{◌≡◌, ℕ, ◌<◌, List, [], ◌∷◌, refl, arith}
use Rattle.std.proofs.lemmas.List.Sums.{sum_by-append, sum_by-cons}
use Rattle.plain_audit.specs.plain_state.declared.slot.SlotId.{SlotId}
use Rattle.plain_audit.specs.plain_state.Lists.{times}
use Rattle.plain_audit.specs.plain_state.References.{held_in}
use Rattle.plain_audit.proofs.Below.plain_state_Kit.{held_self, times_append, times_cons, times_none}

-- what is in a list is what it has some times
pub member_here : (x : SlotId) (xs : List SlotId) → 0 < times x (x ∷ xs)
member_here x xs = let all = times_cons x x xs in let one = held_self x in omega arith

pub member_there : (x y : SlotId) (xs : List SlotId) → 0 < times y xs → 0 < times y (x ∷ xs)
member_there x y xs some = let all = times_cons y x xs in omega arith

-- a sum over the members
pub members_same : (f g : SlotId → ℕ) (xs : List SlotId)
    → ((s : SlotId) → 0 < times s xs → f s ≡ g s) → sum_by f xs ≡ sum_by g xs
members_same f g [] same = refl
members_same f g (x ∷ xs) same =
    let first = same x (member_here x xs) in
    let rest = members_same f g xs (λ s some. same s (member_there x s xs some)) in
    let all = sum_by-cons f x xs in
    let all_too = sum_by-cons g x xs in omega arith

pub times_summed : (s : SlotId) (xs : List SlotId)
    → times s xs ≡ sum_by (λ (x : SlotId). held_in s (Some x)) xs
times_summed s [] = times_none s
times_summed s (x ∷ xs) =
    let all = times_cons s x xs in
    let rest = times_summed s xs in
    let sum = sum_by-cons (λ (y : SlotId). held_in s (Some y)) x xs in omega arith

pub times_flat : (s : SlotId) (f : SlotId → List SlotId) (xs : List SlotId)
    → times s (flat_map f xs) ≡ sum_by (λ (x : SlotId). times s (f x)) xs
times_flat s f [] = times_none s
times_flat s f (x ∷ xs) =
    let all = times_append s (f x) (flat_map f xs) in
    let rest = times_flat s f xs in
    let sum = sum_by-cons (λ (y : SlotId). times s (f y)) x xs in omega arith

pub sum_flat : (g : SlotId → ℕ) (f : SlotId → List SlotId) (xs : List SlotId)
    → sum_by g (flat_map f xs) ≡ sum_by (λ (x : SlotId). sum_by g (f x)) xs
sum_flat g f [] = refl
sum_flat g f (x ∷ xs) =
    let all = sum_by-append g (f x) (flat_map f xs) in
    let rest = sum_flat g f xs in
    let sum = sum_by-cons (λ (y : SlotId). sum_by g (f y)) x xs in omega arith

pub sum_mapped : (f : List ℕ → ℕ) (g : SlotId → List ℕ) (xs : List SlotId)
    → sum_by (λ (x : SlotId). f (g x)) xs ≡ sum_by f (map g xs)
sum_mapped f g [] = refl
sum_mapped f g (x ∷ xs) =
    let all = sum_by-cons (λ (y : SlotId). f (g y)) x xs in
    let all_too = sum_by-cons f (g x) (map g xs) in
    let rest = sum_mapped f g xs in omega arith
