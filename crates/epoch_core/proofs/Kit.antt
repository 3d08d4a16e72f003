-- Sums over seats, and counts of pending entries after a push and a removal.
use Rattle.std.proofs.Common.{◌≡◌, ◌⊎◌, inl, inr, ℕ, ◌+◌, ◌<◌, ◌≤◌, Bool, true, false, List, [], ◌∷◌, ◌++◌, length, get_or, set, refl, arith}
use Rattle.std.specs.Prelude.{if◌then◌else◌, cond, nat_lt}
use Rattle.std.proofs.lemmas.List.Sums.{sum_by-set, sum_by-cons, sum_by_push, sum_by-append, get_or-le-sum_by}
use Rattle.std.proofs.lemmas.Bool.Decides.{nat_tests}
use Rattle.core_law.specs.plain_state.declared.slot.SlotId.{SlotId}
use Rattle.core_law.specs.core_events.Counts.{one}
use Rattle.core_law.proofs.Kit.{by_test, slot_eq}
use Rattle.epoch_core.specs.declared.act.Dated.{Dated}
use Rattle.epoch_core.specs.declared.view.EpochView.{EpochView}
use Rattle.epoch_core.specs.Views.{no_view}
use Rattle.epoch_core.specs.Steps.{is_dated, dated_times, without_dated}
use Rattle.epoch_core.specs.Counts.{total, pending_times, pending_from}

pub total_set : (f : EpochView → ℕ) (vs : List EpochView) (n : ℕ) (v : EpochView) → n < length vs
    → total f (set vs n v) + f (get_or vs n no_view) ≡ total f vs + f v
unfolding total
total_set f vs n v h = sum_by-set f vs n v no_view h

pub total_at : (f : EpochView → ℕ) (vs : List EpochView) (n : ℕ) → n < length vs
    → f (get_or vs n no_view) ≤ total f vs
unfolding total
total_at f vs n h = get_or-le-sum_by f vs n no_view h

-- ENTRIES
abbrev dated_of : SlotId → ℕ → Dated
dated_of s e = record { slot = s; date = e }

dated_same : (s t : SlotId) (d e : ℕ) → s ≡ t → d ≡ e → dated_of s d ≡ dated_of t e
dated_same s t d e a b = cc

pub dated_eq : (d x : Dated) → is_dated d x ≡ true → x ≡ d
dated_eq d x is =
    let a : x.slot.0 ≡ d.slot.0 = grind (arith, nat_tests) in
    let b : x.date ≡ d.date = grind (arith, nat_tests) in
    dated_same x.slot d.slot x.date d.date (slot_eq x.slot d.slot a) b

-- 1 where they are the same entry
abbrev pub same_entry : Dated → Dated → ℕ
same_entry d x = if is_dated d x then 1 else 0

pub dated_none : (d : Dated) → dated_times d [] ≡ 0
unfolding dated_times
dated_none d = refl

pub dated_cons : (d x : Dated) (xs : List Dated)
    → dated_times d (x ∷ xs) ≡ same_entry d x + dated_times d xs
unfolding dated_times
dated_cons d x xs = sum_by-cons (λ (y : Dated). cond (is_dated d y) 1 0) x xs

dated_append : (d : Dated) (xs ys : List Dated)
    → dated_times d (xs ++ ys) ≡ dated_times d xs + dated_times d ys
unfolding dated_times
dated_append d xs ys = sum_by-append (λ (y : Dated). cond (is_dated d y) 1 0) xs ys

-- an entry of a list with one more stands in the list, or is that one
pub dated_push : (d x : Dated) (xs : List Dated) → 0 < dated_times d (xs ++ x ∷ [])
    → (0 < dated_times d xs) ⊎ (x ≡ d)
dated_push d x xs h =
    let a = dated_append d xs (x ∷ []) in
    let b = dated_cons d x [] in
    let e = dated_none d in
    by_test (is_dated d x) (λ is. inr (dated_eq d x is))
    (λ not. let o : same_entry d x ≡ 0 = rw not refl in inl (omega arith))

-- an entry of two lists joined stands in one of them
pub dated_joined : (d : Dated) (xs ys : List Dated) → 0 < dated_times d (xs ++ ys)
    → (0 < dated_times d xs) ⊎ (0 < dated_times d ys)
dated_joined d xs ys h =
    let a = dated_append d xs ys in
    by_test (nat_lt 0 (dated_times d xs)) (λ is. inl (grind (arith, nat_tests)))
    (λ not. inr (grind (arith, nat_tests)))

-- a list without one entry has no other one more often
pub dated_rest : (d x : Dated) (xs : List Dated)
    → dated_times d (without_dated x xs) ≤ dated_times d xs
dated_rest d x [] = omega arith
dated_rest d x (y ∷ ys) = go (is_dated x y) (dated_rest d x ys)
  where
    go : (b : Bool) → dated_times d (without_dated x ys) ≤ dated_times d ys
        → dated_times d (if b then ys else y ∷ without_dated x ys) ≤ dated_times d (y ∷ ys)
    go true less = let a = dated_cons d y ys in omega arith
    go false less =
        let a = dated_cons d y ys in
        let b = dated_cons d y (without_dated x ys) in omega arith

-- SUMS OVER ENTRIES
-- what an entry adds to how many entries are for s, and to how many of them are dated g or later
abbrev pub late_one : ℕ → SlotId → Dated → ℕ
late_one g s d = if nat_lt d.date g then 0 else one s d.slot

pub pending_none : (s : SlotId) → pending_times s [] ≡ 0
unfolding pending_times
pending_none s = refl

pub pending_cons : (s : SlotId) (x : Dated) (xs : List Dated)
    → pending_times s (x ∷ xs) ≡ one s x.slot + pending_times s xs
unfolding pending_times
pending_cons s x xs = sum_by-cons (λ (d : Dated). one s d.slot) x xs

pub pending_push : (s : SlotId) (x : Dated) (xs : List Dated)
    → pending_times s (xs ++ x ∷ []) ≡ pending_times s xs + one s x.slot
unfolding pending_times
pending_push s x xs = sum_by_push (λ (d : Dated). one s d.slot) xs x

pub pending_append : (s : SlotId) (xs ys : List Dated)
    → pending_times s (xs ++ ys) ≡ pending_times s xs + pending_times s ys
unfolding pending_times
pending_append s xs ys = sum_by-append (λ (d : Dated). one s d.slot) xs ys

pub from_none : (g : ℕ) (s : SlotId) → pending_from g s [] ≡ 0
unfolding pending_from
from_none g s = refl

pub from_cons : (g : ℕ) (s : SlotId) (x : Dated) (xs : List Dated)
    → pending_from g s (x ∷ xs) ≡ late_one g s x + pending_from g s xs
unfolding pending_from
from_cons g s x xs = sum_by-cons (late_one g s) x xs

pub from_push : (g : ℕ) (s : SlotId) (x : Dated) (xs : List Dated)
    → pending_from g s (xs ++ x ∷ []) ≡ pending_from g s xs + late_one g s x
unfolding pending_from
from_push g s x xs = sum_by_push (late_one g s) xs x

pub from_append : (g : ℕ) (s : SlotId) (xs ys : List Dated)
    → pending_from g s (xs ++ ys) ≡ pending_from g s xs + pending_from g s ys
unfolding pending_from
from_append g s xs ys = sum_by-append (late_one g s) xs ys

-- one entry goes
pub pending_without : (s : SlotId) (d : Dated) (xs : List Dated) → 0 < dated_times d xs
    → pending_times s (without_dated d xs) + one s d.slot ≡ pending_times s xs
pending_without s d [] h = let e = dated_none d in absurd (omega arith)
pending_without s d (x ∷ xs) h = go (is_dated d x) refl (pending_without s d xs)
  where
    go : (b : Bool) → is_dated d x ≡ b
        → (0 < dated_times d xs → pending_times s (without_dated d xs) + one s d.slot ≡ pending_times s xs)
        → pending_times s (if b then xs else x ∷ without_dated d xs) + one s d.slot
        ≡ pending_times s (x ∷ xs)
    go true is more = rw (dated_eq d x is) (let c = pending_cons s d xs in omega arith)
    go false is more =
        let o : same_entry d x ≡ 0 = rw is refl in
        let a = dated_cons d x xs in
        let r = more (omega arith) in
        let b = pending_cons s x xs in
        let e = pending_cons s x (without_dated d xs) in omega arith

pub from_without : (g : ℕ) (s : SlotId) (d : Dated) (xs : List Dated) → 0 < dated_times d xs
    → pending_from g s (without_dated d xs) + late_one g s d ≡ pending_from g s xs
from_without g s d [] h = let e = dated_none d in absurd (omega arith)
from_without g s d (x ∷ xs) h = go (is_dated d x) refl (from_without g s d xs)
  where
    go : (b : Bool) → is_dated d x ≡ b
        → (0 < dated_times d xs → pending_from g s (without_dated d xs) + late_one g s d ≡ pending_from g s xs)
        → pending_from g s (if b then xs else x ∷ without_dated d xs) + late_one g s d
        ≡ pending_from g s (x ∷ xs)
    go true is more = rw (dated_eq d x is) (let c = from_cons g s d xs in omega arith)
    go false is more =
        let o : same_entry d x ≡ 0 = rw is refl in
        let a = dated_cons d x xs in
        let r = more (omega arith) in
        let b = from_cons g s x xs in
        let e = from_cons g s x (without_dated d xs) in omega arith

-- an entry of date g or later counts, an earlier one doesn't
pub late_is : (g : ℕ) (s : SlotId) (d : Dated) → g ≤ d.date → late_one g s d ≡ one s d.slot
late_is g s d h = grind (arith, nat_tests)

pub late_not : (g : ℕ) (s : SlotId) (d : Dated) → d.date < g → late_one g s d ≡ 0
late_not g s d h = grind (arith, nat_tests)

pub late_most : (g : ℕ) (s : SlotId) (d : Dated) → late_one g s d ≤ one s d.slot
late_most g s d = grind (arith, nat_tests)

-- where entries for s are, one of them is in the list
pub pending_some : (s : SlotId) (d : Dated) (xs : List Dated) → 0 < dated_times d xs
    → one s d.slot ≤ pending_times s xs
pending_some s d xs h = let e = pending_without s d xs h in omega arith
