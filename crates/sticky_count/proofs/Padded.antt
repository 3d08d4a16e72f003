-- The views of all seats, those still to be split off included: one view changes, or a seat is split off.
use Rattle.std.proofs.Common.{◌≡◌, ℕ, zero, suc, ◌+◌, ◌<◌, List, [], ◌∷◌, ◌++◌, map, set, get_or, length, replicate, append_assoc, sym, ap, ◌∙◌, arith}
use mathlib.Core.Option.{some, some-injective, some-ne-none}
use lib.ListN.{get_elem?}
use Rattle.std.specs.List.{sum_by}
use Rattle.std.proofs.lemmas.List.{map-append, map-set, set-append_left}
use Rattle.std.proofs.lemmas.List.Sums.{sum_by-set, sum_by_push, get_or-le-sum_by}
use Rattle.atomic_table.proofs.Lists.{at_longer, at_map, set_again}
use Rattle.sticky_count.specs.declared.view.View.{View}
use Rattle.sticky_count.specs.declared.view.Knows.{Knows}
use Rattle.sticky_count.specs.Views.{fresh}
use Rattle.sticky_count.specs.Running.{all_views, stays, split_off}

-- an element that is found has its place within the list
pub found_at : {A : Type 0} (l : List A) (i : ℕ) (a d : A) → get_elem? l i ≡ some a → (i < length l) × (get_or l i d ≡ a)
found_at [] i a d e = absurd (some-ne-none a (sym e))
found_at (x ∷ xs) zero a d e = (omega arith, some-injective x a e)
found_at (x ∷ xs) (suc i) a d e = let r = found_at xs i a d e in (omega arith, r.1)

abbrev view_of : Knows → View
view_of k = k.view

abbrev right_of : Knows → ℕ
right_of k = k.to_open

-- a seat's view stands among all views
pub view_there : (ks : List Knows) (i : ℕ) (k : Knows) → get_elem? ks i ≡ some k
    → (i < length (all_views ks)) × (get_or (all_views ks) i (fresh 0) ≡ k.view)
view_there ks i k at =
    found_at (all_views ks) i k.view (fresh 0)
    (at_longer (map view_of ks) (replicate (sum_by right_of ks) (fresh 0)) i k.view (at_map view_of ks i k at))

right_set : (ks : List Knows) (i : ℕ) (k w : Knows) → get_elem? ks i ≡ some k
    → sum_by right_of (set ks i w) + k.to_open ≡ sum_by right_of ks + w.to_open
right_set ks i k w at =
    let f = found_at ks i k k at in
    let is : (get_or ks i k).to_open ≡ k.to_open = ap right_of f.1 in
    let s = sum_by-set right_of ks i w k f.0 in
    omega arith

-- a step of a seat changes its view among all views
pub set_view : (ks : List Knows) (i : ℕ) (k w : Knows) → get_elem? ks i ≡ some k → w.to_open ≡ k.to_open
    → all_views (set ks i w) ≡ set (all_views ks) i w.view
set_view ks i k w at same =
    let f = found_at (map view_of ks) i k.view k.view (at_map view_of ks i k at) in
    let s = right_set ks i k w at in
    let n : sum_by right_of (set ks i w) ≡ sum_by right_of ks = omega arith in
    ap (λ (l : List View). l ++ replicate (sum_by right_of (set ks i w)) (fresh 0)) (map-set view_of ks i w)
    ∙ ap (λ (m : ℕ). set (map view_of ks) i w.view ++ replicate m (fresh 0)) n
    ∙ sym (set-append_left (map view_of ks) (replicate (sum_by right_of ks) (fresh 0)) i w.view f.0)

-- a seat that is split off was among all views before
pub split_view : (ks : List Knows) (i : ℕ) (k : Knows) → get_elem? ks i ≡ some k → 0 < k.to_open
    → all_views (set ks i (stays k) ++ split_off k ∷ []) ≡ all_views ks
split_view ks i k at more =
    let front : List Knows = set ks i (stays k) in
    let s = right_set ks i k (stays k) at in
    let p = sum_by_push right_of front (split_off k) in
    let f = found_at ks i k k at in
    let is : (get_or ks i k).to_open ≡ k.to_open = ap right_of f.1 in
    let le = get_or-le-sum_by right_of ks i k f.0 in
    let n : ℕ = sum_by right_of (front ++ split_off k ∷ []) in
    let count : suc n ≡ sum_by right_of ks = omega arith in
    let same : map view_of front ≡ map view_of ks =
    map-set view_of ks i (stays k) ∙ set_again (map view_of ks) i k.view (at_map view_of ks i k at) in
    ap (λ (l : List View). l ++ replicate n (fresh 0)) (map-append view_of front (split_off k ∷ []))
    ∙ ap (λ (l : List View). (l ++ fresh 0 ∷ []) ++ replicate n (fresh 0)) same
    ∙ append_assoc (map view_of ks) (fresh 0 ∷ []) (replicate n (fresh 0))
    ∙ ap (λ (m : ℕ). map view_of ks ++ replicate m (fresh 0)) count
