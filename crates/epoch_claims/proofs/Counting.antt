-- Sums over seats that are each at most another, and how many slots lists of slots have.
use Rattle.std.proofs.Common.{◌≡◌, ⊎_elim, ℕ, zero, suc, ◌+◌, ◌<◌, ◌≤◌, List, [], ◌∷◌, length, get_or, refl, arith}
use Rattle.std.proofs.lemmas.Bool.{cases_lt}
use Rattle.std.proofs.lemmas.List.Sums.{sum_by-cons}
use Rattle.core_law.specs.plain_state.declared.slot.SlotId.{SlotId}
use Rattle.core_law.specs.plain_state.Lists.{times}
use Rattle.epoch_core.specs.declared.view.EpochView.{EpochView}
use Rattle.epoch_core.specs.Views.{no_view}
use Rattle.core_law.specs.core_events.Counts.{one, sum_below}
use Rattle.epoch_core.specs.Counts.{total}
use Rattle.core_law.proofs.Kit.{below_none, one_other, times_cons, times_none}

pub total_cons : (f : EpochView → ℕ) (v : EpochView) (vs : List EpochView)
    → total f (v ∷ vs) ≡ f v + total f vs
unfolding total
total_cons f v vs = sum_by-cons f v vs

pub total_nil : (f : EpochView → ℕ) → total f [] ≡ 0
unfolding total
total_nil f = refl

-- of each seat the one number is at most the other
abbrev pub EachMost : (EpochView → ℕ) → (EpochView → ℕ) → List EpochView → Type 0
EachMost f g vs = (m : ℕ) → m < length vs → f (get_or vs m no_view) ≤ g (get_or vs m no_view)

each_rest : (f g : EpochView → ℕ) (v : EpochView) (vs : List EpochView) → EachMost f g (v ∷ vs)
    → EachMost f g vs
each_rest f g v vs each m h = each (suc m) (omega arith)

-- so are the sums
pub total_most : (f g : EpochView → ℕ) (vs : List EpochView) → EachMost f g vs
    → total f vs ≤ total g vs
total_most f g [] each = let a = total_nil f in let b = total_nil g in omega arith
total_most f g (v ∷ vs) each =
    let a = total_cons f v vs in
    let b = total_cons g v vs in
    let first = each 0 (omega arith) in
    let r = total_most f g vs (each_rest f g v vs each) in omega arith

-- and they differ by no less than the numbers of one seat
pub total_gap : (f g : EpochView → ℕ) (vs : List EpochView) (n : ℕ) → EachMost f g vs → n < length vs
    → total f vs + g (get_or vs n no_view) ≤ total g vs + f (get_or vs n no_view)
total_gap f g [] n each h = absurd (omega arith)
total_gap f g (v ∷ vs) zero each h =
    let a = total_cons f v vs in
    let b = total_cons g v vs in
    let r = total_most f g vs (each_rest f g v vs each) in omega arith
total_gap f g (v ∷ vs) (suc n) each h =
    let a = total_cons f v vs in
    let b = total_cons g v vs in
    let first = each 0 (omega arith) in
    let r = total_gap f g vs n (each_rest f g v vs each) (omega arith) in omega arith

-- numbers that are each at least 1 add up to no less than there are
pub below_each : (n : ℕ) (f : ℕ → ℕ) → ((i : ℕ) → i < n → 0 < f i) → n ≤ sum_below n f
unfolding sum_below
below_each zero f each = omega arith
below_each (suc n) f each =
    let r = below_each n f (λ i h. each i (omega arith)) in
    let l = each n (omega arith) in omega arith

below_plus : (n : ℕ) (f g h : ℕ → ℕ) → ((i : ℕ) → h i ≡ f i + g i)
    → sum_below n h ≡ sum_below n f + sum_below n g
unfolding sum_below
below_plus zero f g h split = refl
below_plus (suc n) f g h split =
    let r = below_plus n f g h split in let l = split n in omega arith

one_most : (s x : SlotId) → one s x ≤ 1
unfolding one
one_most s x = grind arith

-- one slot is at most one of those below n
one_below : (n : ℕ) (x : SlotId) → sum_below n (λ i. one (record { 0 = i }) x) ≤ 1
unfolding sum_below
one_below zero x = omega arith
one_below (suc n) x = ⊎_elim
    (λ (less : x.0 < n).
    let l = one_other (record { 0 = n }) x (omega arith) in
    let r = one_below n x in omega arith)
    (λ (not_less : n ≤ x.0).
    let r = below_none n (λ i. one (record { 0 = i }) x)
    (λ i h. one_other (record { 0 = i }) x (omega arith)) in
    let l = one_most (record { 0 = n }) x in omega arith)
    (cases_lt x.0 n)

-- a list has no more slots than entries
times_below : (n : ℕ) (xs : List SlotId)
    → sum_below n (λ i. times (record { 0 = i }) xs) ≤ length xs
times_below n [] =
    let e = below_none n (λ i. times (record { 0 = i }) [])
    (λ i h. times_none (record { 0 = i })) in
    omega arith
times_below n (x ∷ xs) =
    let e = below_plus n (λ i. one (record { 0 = i }) x) (λ i. times (record { 0 = i }) xs)
    (λ i. times (record { 0 = i }) (x ∷ xs)) (λ i. times_cons (record { 0 = i }) x xs) in
    let o = one_below n x in
    let r = times_below n xs in omega arith

-- so have the lists of all seats
pub lists_below : (list : EpochView → List SlotId) (n : ℕ) (vs : List EpochView)
    → sum_below n (λ i. total (λ v. times (record { 0 = i }) (list v)) vs)
    ≤ total (λ v. length (list v)) vs
lists_below list n [] =
    let e = below_none n (λ i. total (λ v. times (record { 0 = i }) (list v)) [])
    (λ i h. total_nil (λ v. times (record { 0 = i }) (list v))) in
    omega arith
lists_below list n (v ∷ vs) =
    let e = below_plus n (λ i. times (record { 0 = i }) (list v))
    (λ i. total (λ u. times (record { 0 = i }) (list u)) vs)
    (λ i. total (λ u. times (record { 0 = i }) (list u)) (v ∷ vs))
    (λ i. total_cons (λ u. times (record { 0 = i }) (list u)) v vs) in
    let o = times_below n (list v) in
    let r = lists_below list n vs in
    let c = total_cons (λ u. length (list u)) v vs in omega arith
