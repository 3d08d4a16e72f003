-- How many keys a balanced tree has at least.
use Rattle.std.proofs.Common.{◌≡◌, ⊎_elim, ℕ, zero, suc, ◌+◌, ◌<◌, ◌≤◌, List, [], ◌∷◌, ◌++◌, length, refl, sym, subst, arith}
use Rattle.std.specs.Prelude.{max}
use Rattle.std.proofs.lemmas.Bool.{cases_lt}
use Rattle.map_trees.specs.Trees.{Tree, leaf, node, Pair, pair, pairs, height, Balanced}
use Rattle.map_trees.specs.Balance.{fewest}

length_append : (xs ys : List Pair) → length (xs ++ ys) ≡ length xs + length ys
length_append [] ys = omega arith
length_append (x ∷ xs) ys = let i = length_append xs ys in omega arith

fewest_step : (n : ℕ) → fewest n ≤ fewest (suc n)
fewest_step zero = omega arith
fewest_step (suc zero) = omega arith
fewest_step (suc (suc n)) = let a = fewest_step n in let b = fewest_step (suc n) in omega arith

pub keys_of_height : (t : Tree) → Balanced t → fewest (height t) ≤ length (pairs t)
keys_of_height leaf b = omega arith
keys_of_height (node a d h l r) b =
    let il = keys_of_height l b.3 in
    let ir = keys_of_height r b.4 in
    let e1 = b.1 in let e2 = b.2 in
    let len = length_append (pairs l) (pair a d ∷ pairs r) in
    let goal : fewest (suc (max (height l) (height r))) ≤ length (pairs (node a d h l r)) =
    go (height l) (height r) (length (pairs l)) (length (pairs r)) il ir e1 e2 (length (pairs (node a d h l r)))
    (omega arith) in
    subst (λ (m : ℕ). fewest m ≤ length (pairs (node a d h l r))) (sym b.0) goal
  where
    -- the lower subtree is at most one level lower
    two : (x y m n k : ℕ) → y ≤ x → x ≤ suc y → fewest x ≤ m → fewest y ≤ n → suc (m + n) ≤ k → fewest (suc x) ≤ k
    two zero y m n k le ge a b c = omega arith
    two (suc x) y m n k le ge a b c = ⊎_elim
        (λ (z : x < y). let e : y ≡ suc x = omega arith in let f = fewest_step x in let g : fewest (suc x) ≤ n =
        subst (λ (i : ℕ). fewest i ≤ n) e b in omega arith)
        (λ (z : y ≤ x). let e : y ≡ x = omega arith in let g : fewest x ≤ n = subst (λ (i : ℕ). fewest i ≤ n) e b in
        omega arith)
        (cases_lt x y)

    go : (x y m n : ℕ) → fewest x ≤ m → fewest y ≤ n → x ≤ suc y → y ≤ suc x → (k : ℕ) → suc (m + n) ≤ k
        → fewest (suc (max x y)) ≤ k
    go x y m n a b p q k c = ⊎_elim
        (λ (z : x < y). let e : max x y ≡ y = omega arith in
        subst (λ (i : ℕ). fewest (suc i) ≤ k) (sym e) (two y x n m k (omega arith) q b a (omega arith)))
        (λ (z : y ≤ x). let e : max x y ≡ x = omega arith in
        subst (λ (i : ℕ). fewest (suc i) ≤ k) (sym e) (two x y m n k z p a b c))
        (cases_lt x y)

fewest_up : (m n : ℕ) → m ≤ n → fewest m ≤ fewest n
fewest_up m zero le = let e : m ≡ 0 = omega arith in rw e (omega arith)
fewest_up m (suc n) le = let i = λ (h : m ≤ n). fewest_up m n h in let s = fewest_step n in
    ⊎_elim (λ (h : m < suc n). let a = i (omega arith) in omega arith) (λ (h : suc n ≤ m). let e : m ≡ suc n =
    omega arith in rw e (omega arith)) (cases_lt m (suc n))

-- with at most 65,536 keys a tree has at most 22 levels
pub levels : (t : Tree) → Balanced t → length (pairs t) ≤ 65536 → height t ≤ 22
levels t b few = ⊎_elim
    (λ (h : 22 < height t). let a = fewest_up 23 (height t) (omega arith) in let c = keys_of_height t b in
    let d : fewest 23 ≡ 75024 = refl in absurd (omega arith))
    (λ h. h) (cases_lt 22 (height t))
