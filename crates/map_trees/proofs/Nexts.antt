-- The least pair from a key on, left and right of a pair.
use Rattle.std.proofs.Common.{◌≡◌, ◌<◌, ◌≤◌, ℕ, Bool, true, false, List, [], ◌∷◌, ◌++◌, refl, ap, ◌∙◌, arith}
use Rattle.std.specs.Prelude.{if◌then◌else◌, nat_lt, Option, Some, None}
use Rattle.map_trees.specs.Trees.{Tree, node, Pair, pair, pairs, AllBelow, Shaped}
use Rattle.map_trees.specs.Maps.{next, or_else}
use Rattle.map_trees.proofs.Joins.{lt_of, le_of}
use Rattle.map_trees.proofs.Lists.{lt_true, lt_false, parts}

pub next_right : (k : ℕ) (xs : List Pair) (y : Pair) (ys : List Pair) → y.key < k → AllBelow y.key xs
    → next k (xs ++ y ∷ ys) ≡ next k ys
next_right k [] y ys h b = let c = lt_true y.key k h in rw c refl
next_right k (x ∷ xs) y ys h b = let e = b.0 in let c = lt_true x.key k (omega arith) in
    rw c (next_right k xs y ys h b.1)

pub next_left : (k : ℕ) (xs : List Pair) (y : Pair) (ys : List Pair) → k ≤ y.key
    → next k (xs ++ y ∷ ys) ≡ or_else (next k xs) (Some y)
next_left k [] y ys h = let c = lt_false y.key k h in rw c refl
next_left k (x ∷ xs) y ys h = go (nat_lt x.key k) refl (next_left k xs y ys h)
  where
    go : (b : Bool) → nat_lt x.key k ≡ b → (next k (xs ++ y ∷ ys) ≡ or_else (next k xs) (Some y))
        → next k (x ∷ (xs ++ y ∷ ys)) ≡ or_else (next k (x ∷ xs)) (Some y)
    go true e i = rw e i
    go false e i = rw e refl

or_else_twice : (a : Option Pair) (y : Pair) (b : Option Pair) → or_else (or_else a (Some y)) b ≡ or_else a (Some y)
or_else_twice None y b = refl
or_else_twice (Some x) y b = refl

-- at a node the least pair lies in the right subtree, or in the left one, or here
pub next_at : (k a d h : ℕ) (l r : Tree) (best : Option Pair) → Shaped (node a d h l r)
    → or_else (next k (pairs (node a d h l r))) best ≡ (if nat_lt a k then or_else (next k (pairs r)) best
    else or_else (next k (pairs l)) (Some (pair a d)))
next_at k a d h l r best s = go (nat_lt a k) refl
  where
    go : (b : Bool) → nat_lt a k ≡ b → or_else (next k (pairs (node a d h l r))) best ≡ (if b
        then or_else (next k (pairs r)) best else or_else (next k (pairs l)) (Some (pair a d)))
    go true e = ap (λ (z : Option Pair). or_else z best) (next_right k (pairs l) (pair a d) (pairs r) (lt_of a k e)
        (parts (pairs l) (pair a d) (pairs r) s.0).below)
    go false e = ap (λ (z : Option Pair). or_else z best) (next_left k (pairs l) (pair a d) (pairs r) (le_of a k e))
        ∙ or_else_twice (next k (pairs l)) (pair a d) best
