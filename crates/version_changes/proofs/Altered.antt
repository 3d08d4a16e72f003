-- A change of a tree, step by step, and the heights that it leaves.
use Rattle.std.proofs.Common.{◌≡◌, ⊎_elim, ℕ, suc, ◌<◌, ◌≤◌, true, false, refl, ap, sym, ◌∙◌, arith}
use Rattle.std.specs.Prelude.{◌==◌, nat_lt, max, Option, Some, None}
use Rattle.std.proofs.lemmas.Bool.{cases_lt}
use Rattle.map_trees.specs.declared.change.Change.{Change}
use Rattle.map_trees.specs.declared.change.Change.TheVariants as change
use Rattle.map_trees.specs.Trees.{Tree, leaf, node, pairs, height, Balanced, Shaped}
use Rattle.map_trees.specs.Maps.{get, bumped}
use Rattle.map_trees.specs.Balance.{altered, glue, insert, join, over, remove, rest_of}
use Rattle.map_trees.proofs.Changing.{Loses, get_at, inserted, removed}
use Rattle.map_trees.proofs.Joins.{join_joined}
use Rattle.map_trees.proofs.Lists.{eq_false, eq_true, lt_false, lt_true}
use Rattle.map_law.proofs.Kit.{none_some, some_same}
use Rattle.version_changes.specs.Values.{value_of}

-- AT A NODE the change is one of the left subtree, or of the right one, or of the node's own key
get_left : (k a d h : ℕ) (l r : Tree) → Shaped (node a d h l r) → nat_lt k a ≡ true
    → get k (pairs (node a d h l r)) ≡ get k (pairs l)
get_left k a d h l r s lt = get_at k a d h l r s ∙ (rw lt refl)

get_right : (k a d h : ℕ) (l r : Tree) → Shaped (node a d h l r) → nat_lt k a ≡ false
    → (a == k) ≡ false → get k (pairs (node a d h l r)) ≡ get k (pairs r)
get_right k a d h l r s lt eq = get_at k a d h l r s ∙ (rw lt (rw eq refl))

get_here : (a d h : ℕ) (l r : Tree) → Shaped (node a d h l r)
    → get a (pairs (node a d h l r)) ≡ Some d
get_here a d h l r s =
    let lt = lt_false a a (omega arith) in let eq = eq_true a a refl in
    get_at a a d h l r s ∙ (rw lt (rw eq refl))

insert_left : (k v a d h : ℕ) (l r : Tree) → nat_lt k a ≡ true
    → insert k v (node a d h l r) ≡ join a d (insert k v l) r
insert_left k v a d h l r lt = rw lt refl

insert_right : (k v a d h : ℕ) (l r : Tree) → nat_lt k a ≡ false → (a == k) ≡ false
    → insert k v (node a d h l r) ≡ join a d l (insert k v r)
insert_right k v a d h l r lt eq = rw lt (rw eq refl)

remove_left : (k a d h : ℕ) (l r : Tree) → nat_lt k a ≡ true
    → remove k (node a d h l r) ≡ join a d (remove k l) r
remove_left k a d h l r lt = rw lt refl

remove_right : (k a d h : ℕ) (l r : Tree) → nat_lt k a ≡ false → (a == k) ≡ false
    → remove k (node a d h l r) ≡ join a d l (remove k r)
remove_right k a d h l r lt eq = rw lt (rw eq refl)

module _ (k a d h : ℕ) (l r : Tree) (s : Shaped (node a d h l r)) where
  altered_left : (c : Change) → nat_lt k a ≡ true
      → altered k c (node a d h l r) ≡ join a d (altered k c l) r
  altered_left (change.Put v) lt = insert_left k v a d h l r lt
  altered_left (change.Bump more) lt =
      ap (λ (x : Option ℕ). insert k (bumped more x) (node a d h l r)) (get_left k a d h l r s lt)
      ∙ insert_left k (bumped more (get k (pairs l))) a d h l r lt
  altered_left change.Take lt = remove_left k a d h l r lt

  altered_right : (c : Change) → nat_lt k a ≡ false → (a == k) ≡ false
      → altered k c (node a d h l r) ≡ join a d l (altered k c r)
  altered_right (change.Put v) lt eq = insert_right k v a d h l r lt eq
  altered_right (change.Bump more) lt eq =
      ap (λ (x : Option ℕ). insert k (bumped more x) (node a d h l r))
      (get_right k a d h l r s lt eq)
      ∙ insert_right k (bumped more (get k (pairs r))) a d h l r lt eq
  altered_right change.Take lt eq = remove_right k a d h l r lt eq

  -- by the order of the keys
  pub left_is : (c : Change) → k < a
      → (altered k c (node a d h l r) ≡ join a d (altered k c l) r)
      × (get k (pairs (node a d h l r)) ≡ get k (pairs l))
  left_is c less = (
    altered_left c (lt_true k a less),
    get_left k a d h l r s (lt_true k a less),
  )

  pub right_is : (c : Change) → a < k
      → (altered k c (node a d h l r) ≡ join a d l (altered k c r))
      × (get k (pairs (node a d h l r)) ≡ get k (pairs r))
  right_is c less =
      let lt = lt_false k a (omega (arith, less)) in
      let eq = eq_false a k (omega (arith, less)) in
      (altered_right c lt eq, get_right k a d h l r s lt eq)

insert_here : (v a d h : ℕ) (l r : Tree) → insert a v (node a d h l r) ≡ node a v h l r
insert_here v a d h l r =
    let lt = lt_false a a (omega arith) in let eq = eq_true a a refl in rw lt (rw eq refl)

remove_here : (a d h : ℕ) (l r : Tree) → remove a (node a d h l r) ≡ glue l r
remove_here a d h l r =
    let lt = lt_false a a (omega arith) in let eq = eq_true a a refl in rw lt (rw eq refl)

module _ (a d h : ℕ) (l r : Tree) (s : Shaped (node a d h l r)) where
  pub answer_here : Some d ≡ get a (pairs (node a d h l r))
  answer_here = sym (get_here a d h l r s)

  pub put_here_is : (c : Change) (v : ℕ) → value_of c (Some d) ≡ Some v
      → altered a c (node a d h l r) ≡ node a v h l r
  put_here_is (change.Put x) v e =
      ap (λ (z : ℕ). insert a z (node a d h l r)) (some_same x v e) ∙ insert_here v a d h l r
  put_here_is (change.Bump more) v e =
      ap (λ (x : Option ℕ). insert a (bumped more x) (node a d h l r)) (get_here a d h l r s)
      ∙ (ap (λ (z : ℕ). insert a z (node a d h l r)) (some_same (bumped more (Some d)) v e)
      ∙ insert_here v a d h l r)
  put_here_is change.Take v e = absurd (none_some v e)

  pub take_here_is : (c : Change) → value_of c (Some d) ≡ None
      → altered a c (node a d h l r) ≡ glue l r
  take_here_is (change.Put x) e = absurd (none_some x (sym e))
  take_here_is (change.Bump more) e = absurd (none_some (bumped more (Some d)) (sym e))
  take_here_is change.Take e = remove_here a d h l r

-- AT NULL
pub put_null_is : (k : ℕ) (c : Change) (v : ℕ) → value_of c None ≡ Some v
    → altered k c leaf ≡ over k v leaf leaf
put_null_is k (change.Put x) v e = ap (λ (z : ℕ). insert k z leaf) (some_same x v e)
put_null_is k (change.Bump more) v e =
    ap (λ (z : ℕ). insert k z leaf) (some_same (bumped more None) v e)
put_null_is k change.Take v e = absurd (none_some v e)

pub take_null_is : (k : ℕ) (c : Change) → value_of c None ≡ None → altered k c leaf ≡ leaf
take_null_is k (change.Put x) e = absurd (none_some x (sym e))
take_null_is k (change.Bump more) e = absurd (none_some (bumped more None) (sym e))
take_null_is k change.Take e = refl

-- HEIGHTS: by one level more or less at most
pub record IsNear (t u : Tree) : Type 0 where
  pub balanced : Balanced u
  pub low : height t ≤ suc (height u)
  pub high : height u ≤ suc (height t)

pub altered_near : (k : ℕ) (c : Change) (t : Tree) → Shaped t → IsNear t (altered k c t)
altered_near k (change.Put v) t s =
    let i = inserted k v t s.0 s.1 in let lo = i.low in record {
      balanced = i.balanced;
      low = omega (arith, lo);
      high = i.high;
    }
altered_near k (change.Bump more) t s =
    let i = inserted k (bumped more (get k (pairs t))) t s.0 s.1 in let lo = i.low in record {
      balanced = i.balanced;
      low = omega (arith, lo);
      high = i.high;
    }
altered_near k change.Take t s =
    let i = (removed k t s.0 s.1).loses in let hi = i.high in record {
      balanced = i.balanced;
      low = i.low;
      high = omega (arith, hi);
    }

-- a key that is taken leaves no tree higher
pub take_lowers : (k : ℕ) (c : Change) (x : Option ℕ) → value_of c x ≡ None → (t : Tree) → Shaped t
    → height (altered k c t) ≤ height t
take_lowers k (change.Put v) x e t s = absurd (none_some v (sym e))
take_lowers k (change.Bump more) x e t s = absurd (none_some (bumped more x) (sym e))
take_lowers k change.Take x e t s = (removed k t s.0 s.1).loses.high

-- THE REST without the least pair
lost_left : (k v : ℕ) (l m r : Tree) → Balanced r → height l ≤ suc (height r)
    → height r ≤ suc (height l) → Loses (height l) m
    → Loses (suc (max (height l) (height r))) (join k v m r)
lost_left k v l m r br x y lo =
    let a = lo.low in let b = lo.high in
    let j = join_joined k v m r lo.balanced br (omega arith) (omega arith) in
    let c = j.low in let d = j.high in
    record {
      balanced = j.balanced;
      low = ⊎_elim (λ (z : suc (height m) < height r). omega arith)
          (λ (z : height r ≤ suc (height m)). let e = j.even (omega arith) z in omega arith)
          (cases_lt (suc (height m)) (height r));
      high = omega arith;
    }

pub rest_loses : (k v h : ℕ) (l r : Tree) → Balanced (node k v h l r)
    → Loses h (rest_of k v l r)
rest_loses k v h leaf r b =
    let e = b.0 in record { balanced = b.4; low = omega arith; high = omega arith }
rest_loses k v h (node a d i l m) r b =
    let e = b.0 in
    let w = lost_left k v (node a d i l m) (rest_of a d l m) r b.4 b.1 b.2
    (rest_loses a d i l m b.3) in
    let x = w.low in let y = w.high in
    record { balanced = w.balanced; low = omega arith; high = omega arith }
