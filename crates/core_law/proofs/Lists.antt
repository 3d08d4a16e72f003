-- Lists that are read off numbers, and sums over them.
use Rattle.std.proofs.Common.{◌≡◌, ◌≢◌, ⊎_elim, ℕ, zero, suc, ◌+◌, ◌-◌, ◌<◌, Bool, true, false, List, [], ◌∷◌, ◌++◌, get_or, set, map, refl, ap, sym, ◌∙◌, subst, arith}
use Rattle.std.specs.Prelude.{◌==◌, sum_by, count_by, cond, if◌then◌else◌, Option, Some, None}
use Rattle.std.proofs.lemmas.List.{length-set, get_or-set_same, get_or-set_other, same_lists}
use Rattle.std.proofs.lemmas.List.Sums.{sum_by-cons, sum_by_push}
use Rattle.std.proofs.lemmas.Bool.{cases_eq}
use Rattle.std.proofs.lemmas.Bool.Decides.{nat_tests}
use Rattle.core_events.specs.plain_state.declared.slot.SlotId.{SlotId}
use Rattle.core_events.specs.plain_state.declared.slot.PlainSlot.{PlainSlot}
use Rattle.core_events.specs.plain_state.Lists.{holds, cell_times}
use Rattle.core_events.specs.plain_state.References.{held_in, over_seats, over_slots}
use Rattle.core_events.specs.plain_state.State.{PlainSeat}
use Rattle.core_events.specs.declared.view.CoreView.{CoreView}
use Rattle.core_events.specs.Words.{each_from, slot_in}
use Rattle.core_events.specs.Counts.{in_word, total, sum_below}
use Rattle.core_events.specs.Shows.{show_seat}
use Rattle.core_law.proofs.Each.{length_each, get_each}

module _ {A : Type 0} where
  pub each_push : (i n : ℕ) (f : ℕ → A) → each_from i (suc n) f ≡ each_from i n f ++ f (i + n) ∷ []
  each_push i zero f = let e : i ≡ i + 0 = omega arith in ap (λ (k : ℕ). f k ∷ []) e
  each_push i (suc n) f =
      let e : i + 1 + n ≡ i + suc n = omega arith in
      ap (λ (xs : List A). f i ∷ xs) (each_push (i + 1) n f
      ∙ ap (λ (k : ℕ). each_from (i + 1) n f ++ f k ∷ []) e)

  -- the same numbers below n give the same list
  pub each_same : (n : ℕ) (f g : ℕ → A) → ((k : ℕ) → k < n → g k ≡ f k) → each_from 0 n g
      ≡ each_from 0 n f
  each_same n f g same = same_lists (each_from 0 n g) (each_from 0 n f)
      (length_each 0 n g ∙ sym (length_each 0 n f))
      (λ k d h.
      let l = length_each 0 n g in
      let e : 0 + k ≡ k = omega arith in
      let s : g (0 + k) ≡ f (0 + k) = same (0 + k) (omega arith) in
      get_each 0 n k g d (omega arith) ∙ (s ∙ sym (get_each 0 n k f d (omega arith))))

  -- one of them changes
  pub each_set : (n k : ℕ) (f g : ℕ → A) (y : A) → k < n → g k ≡ y
      → ((i : ℕ) → i < n → i ≢ k → g i ≡ f i)
      → each_from 0 n g ≡ set (each_from 0 n f) k y
  each_set n k f g y hk is same = same_lists (each_from 0 n g) (set (each_from 0 n f) k y)
      (length_each 0 n g ∙ sym (length-set (each_from 0 n f) k y ∙ length_each 0 n f))
      (λ i d h.
      let l = length_each 0 n g in
      let l' = length_each 0 n f in
      let e : 0 + i ≡ i = omega arith in
      ⊎_elim
      (λ (at : i ≡ k).
      get_each 0 n i g d (omega arith) ∙ (ap g (e ∙ at)
      ∙ (is ∙ sym (subst (λ (j : ℕ). get_or (set (each_from 0 n f) k y) j d ≡ y) (sym at)
      (get_or-set_same (each_from 0 n f) k y d (omega arith))))))
      (λ (ne : i ≢ k).
      let s : g (0 + i) ≡ f (0 + i) = same (0 + i) (omega arith) (omega arith) in
      get_each 0 n i g d (omega arith) ∙ (s ∙ (sym (get_each 0 n i f d (omega arith))
      ∙ sym (get_or-set_other (each_from 0 n f) k i y d ne))))
      (cases_eq i k))

-- 1 for true
abbrev pub as_number : Bool → ℕ
as_number b = if b then 1 else 0

-- a place's word as an option
pub holds_word : (s : SlotId) (w : ℕ) → as_number (holds s (slot_in w)) ≡ in_word s w
unfolding in_word
holds_word s w = go (w == 0) refl
  where
    go : (b : Bool) → (w == 0) ≡ b
        → as_number (holds s (if b then None else Some (record { 0 = w - 1 })))
        ≡ as_number (w == s.0 + 1)
    go true is =
        let null : w ≡ 0 = grind (arith, nat_tests) in
        let t : (w == s.0 + 1) ≡ false = grind (arith, nat_tests) in rw t refl
    go false is =
        let there : w ≢ 0 = grind (arith, nat_tests) in
        ap as_number (same there)
      where
        same : w ≢ 0 → (w - 1 == s.0) ≡ (w == s.0 + 1)
        same there = grind (arith, nat_tests)

pub held_word : (s : SlotId) (w : ℕ) → held_in s (slot_in w) ≡ in_word s w
unfolding held_in
held_word s w = holds_word s w

pub cells_sum : (s : SlotId) (n : ℕ) (f : ℕ → ℕ)
    → cell_times s (each_from 0 n (λ i. slot_in (f i))) ≡ sum_below n (λ i. in_word s (f i))
unfolding cell_times sum_below
cells_sum s zero f = refl
cells_sum s (suc n) f =
    let e : 0 + n ≡ n = omega arith in
    let p = ap (count_by (holds s)) (each_push 0 n (λ i. slot_in (f i))) in
    let q = sum_by_push (λ (o : Option SlotId). cond (holds s o) 1 0)
    (each_from 0 n (λ i. slot_in (f i))) (slot_in (f (0 + n))) in
    let h = holds_word s (f (0 + n)) in
    let m = ap (λ (k : ℕ). in_word s (f k)) e in
    let r = cells_sum s n f in omega arith

pub slots_sum : (h : PlainSlot → ℕ) (n : ℕ) (f : ℕ → PlainSlot) (g : ℕ → ℕ)
    → ((i : ℕ) → i < n → h (f i) ≡ g i)
    → over_slots h (each_from 0 n f) ≡ sum_below n g
unfolding over_slots sum_below
slots_sum h zero f g same = refl
slots_sum h (suc n) f g same =
    let e : 0 + n ≡ n = omega arith in
    let p = ap (sum_by h) (each_push 0 n f) in
    let q = sum_by_push h (each_from 0 n f) (f (0 + n)) in
    let m = ap (λ (k : ℕ). h (f k)) e in
    let o = same n (omega arith) in
    let r = slots_sum h n f g (λ i l. same i (omega arith)) in omega arith

pub seats_sum : (h : PlainSeat → ℕ) (vs : List CoreView) → over_seats h (map show_seat vs)
    ≡ total (λ v. h (show_seat v)) vs
unfolding over_seats total
seats_sum h [] = refl
seats_sum h (v ∷ vs) =
    let a = sum_by-cons h (show_seat v) (map show_seat vs) in
    let b = sum_by-cons (λ (u : CoreView). h (show_seat u)) v vs in
    let r = seats_sum h vs in omega arith

pub total_plus : (f g : CoreView → ℕ) (vs : List CoreView) → total (λ v. f v + g v) vs ≡ total f vs
    + total g vs
unfolding total
total_plus f g [] = refl
total_plus f g (v ∷ vs) =
    let a = sum_by-cons (λ (u : CoreView). f u + g u) v vs in
    let b = sum_by-cons f v vs in
    let c = sum_by-cons g v vs in
    let r = total_plus f g vs in omega arith

pub total_same : (f g : CoreView → ℕ) (vs : List CoreView) → ((v : CoreView) → f v ≡ g v)
    → total f vs ≡ total g vs
unfolding total
total_same f g [] same = refl
total_same f g (v ∷ vs) same =
    let a = sum_by-cons f v vs in
    let b = sum_by-cons g v vs in
    let e = same v in
    let r = total_same f g vs same in omega arith
