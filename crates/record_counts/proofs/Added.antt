-- A sum over slots as one over a list that has each slot as often as it counts.
use Rattle.std.specs.Prelude.{sum_by}
use Rattle.std.proofs.Common.{◌≡◌, ◌≢◌, ◌⊎◌, ⊎_elim, ℕ, zero, suc, ◌+◌, ◌*◌, ◌<◌, ◌≤◌, List, [], ◌∷◌, length, get_or, refl, ap, sym, ◌∙◌, arith, Some}
use Rattle.std.proofs.lemmas.Bool.{cases_eq, cases_lt}
use Rattle.std.proofs.lemmas.List.Sums.{sum_by-cons}
use Rattle.std.proofs.lemmas.List.{get_or_past}
use Rattle.plain_audit.specs.plain_state.declared.slot.PlainSlot.{PlainSlot}
use Rattle.plain_audit.specs.plain_state.declared.slot.SlotId.{SlotId}
use Rattle.plain_audit.specs.plain_state.Lists.{times}
use Rattle.plain_audit.specs.plain_state.References.{held_in, over_slots}
use Rattle.plain_audit.specs.plain_state.State.{new_slot}
use Rattle.plain_audit.proofs.Below.plain_state_Kit.{held_other, held_same, times_cons, times_none}
use Rattle.plain_audit.specs.heap_audit.Heaps.{slot}

-- a number of each of the first n slots, added up
unfoldable added : (ℕ → ℕ) → ℕ → ℕ
added f zero = 0
added f (suc n) = added f n + f n

added_same : (f g : ℕ → ℕ) (n : ℕ) → ((k : ℕ) → k < n → f k ≡ g k) → added f n ≡ added g n
unfolding added
added_same f g zero same = refl
added_same f g (suc n) same =
    let last = same n (omega arith) in
    let rest = added_same f g n (λ k lt. same k (omega arith)) in omega arith

added_both : (f g : ℕ → ℕ) (n : ℕ) → added (λ m. f m + g m) n ≡ added f n + added g n
unfolding added
added_both f g zero = refl
added_both f g (suc n) = let rest = added_both f g n in omega arith

added_first : (f : ℕ → ℕ) (n : ℕ) → added f (suc n) ≡ f 0 + added (λ k. f (suc k)) n
unfolding added
added_first f zero = omega arith
added_first f (suc n) = let rest = added_first f n in omega arith

added_none : (f : ℕ → ℕ) (n : ℕ) → ((k : ℕ) → k < n → f k ≡ 0) → added f n ≡ 0
unfolding added
added_none f zero none = refl
added_none f (suc n) none =
    let last = none n (omega arith) in
    let rest = added_none f n (λ k lt. none k (omega arith)) in omega arith

-- a sum over slots, by their numbers
slots_added : (f : PlainSlot → ℕ) (xs : List PlainSlot)
    → over_slots f xs ≡ added (λ k. f (get_or xs k new_slot)) (length xs)
unfolding over_slots added
slots_added f [] = refl
slots_added f (x ∷ xs) =
    let all = sum_by-cons f x xs in
    let first = added_first (λ k. f (get_or (x ∷ xs) k new_slot)) (length xs) in
    let rest : over_slots f xs ≡ added (λ k. f (get_or xs k new_slot)) (length xs) =
    slots_added f xs in omega arith

-- one number alone counts
module _ (g : ℕ → ℕ) (x : SlotId) where
  one_at : (k : ℕ) → x.0 ≢ k → held_in (slot k) (Some x) * g k ≡ 0
  one_at k ne = let none = held_other (slot k) x ne in ap (λ a. a * g k) none ∙ omega arith

  one_added : (n : ℕ) → x.0 < n → added (λ k. held_in (slot k) (Some x) * g k) n ≡ g x.0
  unfolding added
  one_added zero inside = absurd (omega (arith, inside))
  one_added (suc n) inside = ⊎_elim
      (λ (last : x.0 ≡ n).
      let one = held_same (slot n) x last in
      let here : held_in (slot n) (Some x) * g n ≡ g n = ap (λ a. a * g n) one ∙ omega arith in
      let same : g n ≡ g x.0 = ap g (sym last) in
      let rest = added_none (λ k. held_in (slot k) (Some x) * g k) n
      (λ k lt. one_at k (λ e. omega arith)) in omega arith)
      (λ ne.
      let none = one_at n ne in
      let rest = one_added n (omega arith) in omega arith)
      (cases_eq x.0 n)

-- a sum over a list, by how often each number stands in it
listed_added : (g : ℕ → ℕ) (n : ℕ) → ((k : ℕ) → n ≤ k → g k ≡ 0) → (xs : List SlotId)
    → added (λ k. times (slot k) xs * g k) n ≡ sum_by (λ (x : SlotId). g x.0) xs
listed_added g n past [] = added_none (λ k. times (slot k) [] * g k) n
    (λ k lt. ap (λ a. a * g k) (times_none (slot k)) ∙ omega arith)
listed_added g n past (x ∷ xs) =
    let split = added_same (λ k. times (slot k) (x ∷ xs) * g k)
    (λ k. held_in (slot k) (Some x) * g k + times (slot k) xs * g k) n
    (λ k lt. ap (λ a. a * g k) (times_cons (slot k) x xs) ∙ omega arith) in
    let both = added_both (λ k. held_in (slot k) (Some x) * g k) (λ k. times (slot k) xs * g k) n in
    let first : added (λ k. held_in (slot k) (Some x) * g k) n ≡ g x.0 = ⊎_elim
    (λ (inside : x.0 < n). one_added g x n inside)
    (λ out.
    let none = past x.0 out in
    let rest = added_none (λ k. held_in (slot k) (Some x) * g k) n
    (λ k lt. one_at g x k (λ e. omega arith)) in omega arith)
    (cases_lt x.0 n) in
    let rest = listed_added g n past xs in
    let all = sum_by-cons (λ (y : SlotId). g y.0) x xs in omega arith

-- where each slot either has nothing or stands in the list once, the list has all
pub slots_listed : (f : PlainSlot → ℕ) (slots : List PlainSlot) (xs : List SlotId)
    → f new_slot ≡ 0
    → ((s : SlotId) → (f (get_or slots s.0 new_slot) ≡ 0) ⊎ (times s xs ≡ 1))
    → over_slots f slots ≡ sum_by (λ (s : SlotId). f (get_or slots s.0 new_slot)) xs
slots_listed f slots xs new each =
    let g : ℕ → ℕ = λ k. f (get_or slots k new_slot) in
    slots_added f slots
    ∙ (added_same g (λ k. times (slot k) xs * g k) (length slots) (λ k lt. ⊎_elim
    (λ (none : g k ≡ 0). none ∙ sym (ap (λ a. times (slot k) xs * a) none ∙ omega arith))
    (λ (one : times (slot k) xs ≡ 1). sym (ap (λ a. a * g k) one ∙ omega arith))
    (each (slot k)))
    ∙ listed_added g (length slots)
    (λ k past. ap f (get_or_past slots k new_slot past) ∙ new) xs)
