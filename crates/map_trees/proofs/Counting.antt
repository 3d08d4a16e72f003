-- Where all entries add one, a key's value is how many entries are of it.
use Rattle.std.proofs.Common.{sum_by, Bool, true, false, ◌≡◌, ◌≢◌, ⊎_elim, ℕ, ◌+◌, ◌-◌, ◌<◌, ◌^◌, List, [], ◌∷◌, length, refl, ap, ◌∙◌, subst, arith}
use Rattle.std.specs.Prelude.{if◌then◌else◌, ◌==◌, min}
use Rattle.std.proofs.lemmas.Bool.{cases_eq}
use Rattle.map_trees.specs.Trees.{Pair}
use Rattle.map_trees.specs.Maps.{get, put, or_zero, changed, replayed}
use Rattle.map_trees.specs.Counting.{AllBumps, bumps}
use Rattle.map_trees.specs.declared.change.Change.{Change}
use Rattle.map_trees.specs.declared.change.Entry.{Entry}
use Rattle.map_trees.proofs.Lists.{eq_true, eq_false}
use Rattle.std.proofs.lemmas.List.Sums.{sum_by-cons}
use Rattle.std.proofs.lemmas.Bool.{eqb-true}
use Rattle.map_trees.specs.declared.change.Change.TheVariants as change
use Rattle.map_trees.proofs.OneKey.{get_put_same, get_put_other}

pub all_bumps : (m : List Pair) (es : List Entry) → AllBumps es → ((k : ℕ) → or_zero (get k m) + length es < 2 ^ 64)
    → (k : ℕ) → or_zero (get k (replayed m es)) ≡ or_zero (get k m) + bumps k es
all_bumps m [] all few k = omega arith
all_bumps m (e ∷ es) all few k =
    let new : List Pair = put e.key (min (2 ^ 64 - 1) (or_zero (get e.key m) + 1)) m in
    let at : changed e.key e.change m ≡ new = ap (λ (z : Change). changed e.key z m) all.0 in
    let here' : or_zero (get e.key new) ≡ or_zero (get e.key m) + 1 =
    ap or_zero (get_put_same e.key (min (2 ^ 64 - 1) (or_zero (get e.key m) + 1)) m)
    ∙ (let f = few e.key in omega arith) in
    let there : (j : ℕ) → e.key ≢ j → or_zero (get j new) ≡ or_zero (get j m) =
    λ j ne. ap or_zero (get_put_other e.key (min (2 ^ 64 - 1) (or_zero (get e.key m) + 1)) j m ne) in
    let few' : (j : ℕ) → or_zero (get j new) + length es < 2 ^ 64 = λ j. ⊎_elim
    (λ (h : e.key ≡ j). let f = few j in let g =
    subst (λ (z : ℕ). or_zero (get z new) ≡ or_zero (get z m) + 1) h here' in omega arith)
    (λ ne. let f = few j in let g = there j ne in omega arith) (cases_eq e.key j) in
    let i = all_bumps new es all.1 few' k in
    ap (λ (z : List Pair). or_zero (get k (replayed z es))) at ∙ (i ∙ ⊎_elim
    (λ (h : e.key ≡ k). let g = subst (λ (z : ℕ). or_zero (get z new) ≡ or_zero (get z m) + 1) h here' in let d =
    eq_true e.key k h in
    let c : bumps k (e ∷ es) ≡ 1 + bumps k es = rw d refl in omega arith)
    (λ ne. let g = there k ne in let d = eq_false e.key k ne in let c : bumps k (e ∷ es) ≡ 0 + bumps k es =
    rw d refl in omega arith)
    (cases_eq e.key k))

-- from the empty map on
pub counted : (es : List Entry) → AllBumps es → length es < 2 ^ 64 → (k : ℕ)
    → or_zero (get k (replayed [] es)) ≡ bumps k es
counted es all few k = let a = all_bumps [] es all (λ j. omega arith) k in omega arith

-- SUMS: whether all entries add one, how many they are, and how many are of a key, are sums over them
pub other_change : Change → ℕ
other_change (change.Put v) = 1
other_change (change.Bump d) = if d == 1 then 0 else 1
other_change change.Take = 1

pub adds_none : (es : List Entry) → AllBumps es → sum_by (λ e. other_change e.change) es ≡ 0
unfolding other_change
adds_none [] all = refl
adds_none (e ∷ es) all =
    let a = sum_by-cons (λ (x : Entry). other_change x.change) e es in
    let b : other_change e.change ≡ 0 = ap other_change all.0 in
    let c = adds_none es all.1 in omega arith

pub adds_one : (es : List Entry) → sum_by (λ e. other_change e.change) es ≡ 0 → AllBumps es
unfolding other_change
adds_one [] none = tt
adds_one (e ∷ es) none =
    let a = sum_by-cons (λ (x : Entry). other_change x.change) e es in
    (one e.change (omega arith), adds_one es (omega arith))
  where
    one : (z : Change) → other_change z ≡ 0 → z ≡ change.Bump 1
    one (change.Put v) h = absurd (omega arith)
    one change.Take h = absurd (omega arith)
    one (change.Bump d) h = by (d == 1) refl h
      where
        by : (b : Bool) → (d == 1) ≡ b → other_change (change.Bump d) ≡ 0 → change.Bump d ≡ change.Bump 1
        by true is h = ap (λ (z : ℕ). change.Bump z) (eqb-true d 1 is)
        by false is h = absurd (let z : other_change (change.Bump d) ≡ 1 = rw is refl in omega arith)

pub one_each : Entry → ℕ
one_each e = 1

pub long_is : (es : List Entry) → sum_by one_each es ≡ length es
unfolding one_each
long_is [] = refl
long_is (e ∷ es) = let a = sum_by-cons one_each e es in let b = long_is es in omega arith

pub of_key : ℕ → Entry → ℕ
of_key k e = if e.key == k then 1 else 0

pub bumps_are : (k : ℕ) (es : List Entry) → sum_by (of_key k) es ≡ bumps k es
unfolding of_key
bumps_are k [] = refl
bumps_are k (e ∷ es) = let a = sum_by-cons (of_key k) e es in let b = bumps_are k es in omega arith
