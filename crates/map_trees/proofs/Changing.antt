-- Inserts and removes keep a tree balanced, and change its list as told; and a search takes one way down.
use Rattle.std.proofs.Common.{◌≡◌, ⊎_elim, ℕ, suc, ◌<◌, ◌≤◌, List, ◌∷◌, ◌++◌, refl, ap, sym, ◌∙◌, subst, arith}
use Rattle.std.specs.Prelude.{if◌then◌else◌, ◌==◌, nat_lt, max, Some}
use Rattle.std.proofs.lemmas.Bool.{cases_lt}
use Rattle.map_trees.specs.Trees.{Tree, leaf, node, Pair, pair, pairs, height, Balanced, Ascends, Shaped}
use Rattle.map_trees.specs.declared.change.Change.{Change}
use Rattle.map_trees.specs.Maps.{get, put, take, bumped}
use Rattle.map_trees.specs.Balance.{join, insert, first_of, rest_of, glue, remove}
use Rattle.map_trees.proofs.Lists.{Way, left, here, right, way, append_nil, Parts, parts, put_left, put_here, put_right, put_ascends, take_left, take_here, take_right, take_ascends, get_left, get_here, get_right}
use Rattle.map_trees.specs.Promises.{Alters}
use Rattle.map_trees.specs.declared.change.Change.TheVariants as change
use Rattle.map_trees.proofs.Joins.{join_pairs, join_joined}

-- INSERT
pub record Inserted (k v : ℕ) (t u : Tree) : Type 0 where
  pub list : pairs u ≡ put k v (pairs t)
  pub balanced : Balanced u
  pub low : height t ≤ height u
  pub high : height u ≤ suc (height t)

pub inserted : (k v : ℕ) (t : Tree) → Ascends (pairs t) → Balanced t → Inserted k v t (insert k v t)
inserted k v leaf up b = record {
  list = refl;
  balanced = (refl, (omega arith), (omega arith), tt, tt);
  low =
      omega arith;
  high = omega arith;
}
inserted k v (node a d h l r) up b =
    let ps = parts (pairs l) (pair a d) (pairs r) up in
    go ps (inserted k v l ps.before b.3) (inserted k v r ps.after b.4) (way k a)
  where
    go : Parts (pairs l) (pair a d) (pairs r) → Inserted k v l (insert k v l) → Inserted k v r (insert k v r)
        → Way k a → Inserted k v (node a d h l r) (insert k v (node a d h l r))
    go ps il ir (left lt x y) =
        let e0 = b.0 in let e1 = b.1 in let e2 = b.2 in let f = il.low in let g = il.high in
        let j = join_joined a d (insert k v l) r il.balanced b.4 (omega arith) (omega arith) in
        let lo = j.low in let hi = j.high in
        let ev : height (insert k v l) ≤ suc (height r) → height r ≤ suc (height (insert k v l))
        → height (join a d (insert k v l) r) ≡ suc (max (height (insert k v l)) (height r)) = j.even in
        rw x (record {
          list = join_pairs a d (insert k v l) r ∙ (ap (λ (z : List Pair). z ++ pair a d ∷ pairs r) il.list
              ∙ sym (put_left k v (pairs l) (pair a d) (pairs r) lt));
          balanced = j.balanced;
          low = ⊎_elim (λ (z : suc (height r) < height (insert k v l)). omega arith)
              (λ (z : height (insert k v l) ≤ suc (height r)). let w = ev z (omega arith) in omega arith)
              (cases_lt (suc (height r)) (height (insert k v l)));
          high = omega arith;
        })
    go ps il ir (here e x y) = rw x (rw y (record {
      list = ap (λ (z : ℕ). pairs l ++ pair z v ∷ pairs r) refl
          ∙ sym (put_here k v (pairs l) (pair a d) (pairs r) e ps.below);
      balanced = b;
      low = omega arith;
      high = omega arith;
    }))
    go ps il ir (right lt x y) =
        let e0 = b.0 in let e1 = b.1 in let e2 = b.2 in let f = ir.low in let g = ir.high in
        let j = join_joined a d l (insert k v r) b.3 ir.balanced (omega arith) (omega arith) in
        let lo = j.low in let hi = j.high in
        let ev : height l ≤ suc (height (insert k v r)) → height (insert k v r) ≤ suc (height l)
        → height (join a d l (insert k v r)) ≡ suc (max (height l) (height (insert k v r))) = j.even in
        rw x (rw y (record {
          list = join_pairs a d l (insert k v r) ∙ (ap (λ (z : List Pair). pairs l ++ pair a d ∷ z) ir.list
              ∙ sym (put_right k v (pairs l) (pair a d) (pairs r) lt ps.below));
          balanced = j.balanced;
          low = ⊎_elim (λ (z : suc (height l) < height (insert k v r)). omega arith)
              (λ (z : height (insert k v r) ≤ suc (height l)). let w = ev (omega arith) z in omega arith)
              (cases_lt (suc (height l)) (height (insert k v r)));
          high = omega arith;
        }))

-- THE LEAST PAIR
-- what a join of a subtree that may have lost a level keeps of a node over l and r
pub record Loses (h : ℕ) (u : Tree) : Type 0 where
  pub balanced : Balanced u
  pub low : h ≤ suc (height u)
  pub high : height u ≤ h

-- the left subtree has become l', lower by at most one level
lost_left : (k v : ℕ) (l m r : Tree) → Balanced r → height l ≤ suc (height r) → height r ≤ suc (height l)
    → Loses (height l) m
    → Loses (suc (max (height l) (height r))) (join k v m r)
lost_left k v l m r br x y lo =
    let a = lo.low in let b = lo.high in
    let j = join_joined k v m r lo.balanced br (omega arith) (omega arith) in
    let c = j.low in let d = j.high in
    record {
      balanced = j.balanced;
      low = ⊎_elim (λ (z : suc (height m) < height r). omega arith) (λ (z : height r ≤ suc (height m)). let e =
          j.even (omega arith) z in omega arith) (cases_lt (suc (height m)) (height r));
      high = omega arith;
    }

lost_right : (k v : ℕ) (l r m : Tree) → Balanced l → height l ≤ suc (height r) → height r ≤ suc (height l)
    → Loses (height r) m
    → Loses (suc (max (height l) (height r))) (join k v l m)
lost_right k v l r m bl x y lo =
    let a = lo.low in let b = lo.high in
    let j = join_joined k v l m bl lo.balanced (omega arith) (omega arith) in
    let c = j.low in let d = j.high in
    record {
      balanced = j.balanced;
      low = ⊎_elim (λ (z : suc (height m) < height l). omega arith) (λ (z : height l ≤ suc (height m)). let e =
          j.even z (omega arith) in omega arith) (cases_lt (suc (height m)) (height l));
      high = omega arith;
    }

first_pairs : (k v : ℕ) (l r : Tree) → first_of k v l ∷ pairs (rest_of k v l r) ≡ pairs l ++ pair k v ∷ pairs r
first_pairs k v leaf r = refl
first_pairs k v (node a b h l m) r =
    ap (λ (z : List Pair). first_of a b l ∷ z) (join_pairs k v (rest_of a b l m) r)
    ∙ ap (λ (z : List Pair). z ++ pair k v ∷ pairs r) (first_pairs a b l m)

rest_loses : (k v : ℕ) (l r : Tree) → Balanced l → Balanced r → height l ≤ suc (height r) → height r ≤ suc (height l)
    → Loses (suc (max (height l) (height r))) (rest_of k v l r)
rest_loses k v leaf r bl br x y = record { balanced = br; low = omega arith; high = omega arith }
rest_loses k v (node a b h l m) r bl br x y =
    let i = rest_loses a b l m bl.3 bl.4 bl.1 bl.2 in
    let e = bl.0 in
    lost_left k v (node a b h l m) (rest_of a b l m) r br x y
    (record {
      balanced = i.balanced;
      low = (let z = i.low in omega arith);
      high =
          (let z = i.high in omega arith);
    })

glue_pairs : (l r : Tree) → pairs (glue l r) ≡ pairs l ++ pairs r
glue_pairs l leaf = sym (append_nil (pairs l))
glue_pairs l (node a b h x y) =
    join_pairs (first_of a b x).key (first_of a b x).value l (rest_of a b x y)
    ∙ ap (λ (z : List Pair). pairs l ++ z) (first_pairs a b x y)

glue_loses : (l r : Tree) → Balanced l → Balanced r → height l ≤ suc (height r) → height r ≤ suc (height l)
    → Loses (suc (max (height l) (height r))) (glue l r)
glue_loses l leaf bl br x y = record { balanced = bl; low = omega arith; high = omega arith }
glue_loses l (node a b h u w) bl br x y =
    let i = rest_loses a b u w br.3 br.4 br.1 br.2 in
    let e = br.0 in
    lost_right (first_of a b u).key (first_of a b u).value l (node a b h u w) (rest_of a b u w) bl x y
    (record { balanced = i.balanced; low = (let z = i.low in omega arith); high = (let z = i.high in omega arith) })

-- REMOVE
pub record Removed (k : ℕ) (t u : Tree) : Type 0 where
  pub list : pairs u ≡ take k (pairs t)
  pub loses : Loses (height t) u

pub removed : (k : ℕ) (t : Tree) → Ascends (pairs t) → Balanced t → Removed k t (remove k t)
removed k leaf up b = record { list = refl; loses = record { balanced = tt; low = omega arith; high = omega arith } }
removed k (node a d h l r) up b =
    let ps = parts (pairs l) (pair a d) (pairs r) up in
    go ps (removed k l ps.before b.3) (removed k r ps.after b.4) (way k a)
  where
    at : (u : Tree) → Loses (suc (max (height l) (height r))) u → Loses h u
    at u z = subst (λ (m : ℕ). Loses m u) (sym b.0) z

    go : Parts (pairs l) (pair a d) (pairs r) → Removed k l (remove k l) → Removed k r (remove k r) → Way k a
        → Removed k (node a d h l r) (remove k (node a d h l r))
    go ps il ir (left lt x y) = rw x (record {
      list = join_pairs a d (remove k l) r ∙ (ap (λ (z : List Pair). z ++ pair a d ∷ pairs r) il.list
          ∙ sym (take_left k (pairs l) (pair a d) (pairs r) lt ps.above));
      loses = subst (λ (m : ℕ). Loses m (join a d (remove k l) r)) (sym b.0)
          (lost_left a d l (remove k l) r b.4 b.1 b.2 il.loses);
    })
    go ps il ir (here e x y) = rw x (rw y (record {
      list = glue_pairs l r ∙ sym (take_here k (pairs l) (pair a d) (pairs r) e ps.below);
      loses = subst (λ (m : ℕ). Loses m (glue l r)) (sym b.0) (glue_loses l r b.3 b.4 b.1 b.2);
    }))
    go ps il ir (right lt x y) = rw x (rw y (record {
      list = join_pairs a d l (remove k r) ∙ (ap (λ (z : List Pair). pairs l ++ pair a d ∷ z) ir.list
          ∙ sym (take_right k (pairs l) (pair a d) (pairs r) lt ps.below));
      loses = subst (λ (m : ℕ). Loses m (join a d l (remove k r))) (sym b.0)
          (lost_right a d l r (remove k r) b.3 b.1 b.2 ir.loses);
    }))

-- BOTH, as the exchange asks for them
pub insert_is : (k v : ℕ) (t : Tree) → Shaped t → Shaped (insert k v t) × (pairs (insert k v t) ≡ put k v (pairs t))
insert_is k v t s =
    let i = inserted k v t s.0 s.1 in
    ((subst Ascends (sym i.list) (put_ascends k v (pairs t) s.0), i.balanced), i.list)

pub remove_is : (k : ℕ) (t : Tree) → Shaped t → Shaped (remove k t) × (pairs (remove k t) ≡ take k (pairs t))
remove_is k t s =
    let i = removed k t s.0 s.1 in
    ((subst Ascends (sym i.list) (take_ascends k (pairs t) s.0), i.loses.balanced), i.list)

-- SEARCH: at a node a key is in one subtree, or here
pub get_at : (k a d h : ℕ) (l r : Tree) → Shaped (node a d h l r)
    → get k (pairs (node a d h l r)) ≡ (if nat_lt k a then get k (pairs l)
    else (if a == k then Some d else get k (pairs r)))
get_at k a d h l r s = go (parts (pairs l) (pair a d) (pairs r) s.0) (way k a)
  where
    go : Parts (pairs l) (pair a d) (pairs r) → Way k a → get k (pairs (node a d h l r)) ≡ (if nat_lt k a
        then get k (pairs l) else (if a == k then Some d else get k (pairs r)))
    go ps (left lt x y) = get_left k (pairs l) (pair a d) (pairs r) lt ps.above ∙ (rw x refl)
    go ps (here e x y) = get_here k (pairs l) (pair a d) (pairs r) e ps.below ∙ (rw x (rw y refl))
    go ps (right lt x y) = get_right k (pairs l) (pair a d) (pairs r) lt ps.below ∙ (rw x (rw y refl))

pub shaped_parts : (a d h : ℕ) (l r : Tree) → Shaped (node a d h l r) → Shaped l × Shaped r
shaped_parts a d h l r s = let ps = parts (pairs l) (pair a d) (pairs r) s.0 in
    ((ps.before, s.1.3), (ps.after, s.1.4))

-- a change of any kind
pub alters : (k : ℕ) (change : Change) (t : Tree) → Shaped t → Alters k change t
alters k (change.Put v) t s = insert_is k v t s
alters k (change.Bump d) t s = insert_is k (bumped d (get k (pairs t))) t s
alters k change.Take t s = remove_is k t s
