-- The join of two balanced trees: its list, and its height.
use Rattle.std.proofs.Common.{◌≡◌, ℕ, suc, ◌<◌, ◌≤◌, Bool, true, false, List, [], ◌∷◌, ◌++◌, refl, ap, sym, ◌∙◌, arith}
use Rattle.std.specs.Prelude.{if◌then◌else◌, nat_lt}
use Rattle.std.proofs.lemmas.Bool.Decides.{nat_tests}
use Rattle.map_trees.specs.Trees.{Tree, leaf, node, Pair, pair, pairs, height, Balanced}
use Rattle.map_trees.specs.Balance.{over, outgrows, lean_left, lean_right, join}
use Rattle.map_trees.proofs.Lists.{append_assoc}
use Rattle.map_trees.specs.Promises.{Joined}

pub lt_of : (m n : ℕ) → nat_lt m n ≡ true → m < n
lt_of m n h = grind (arith, nat_tests)

pub le_of : (m n : ℕ) → nat_lt m n ≡ false → n ≤ m
le_of m n h = grind (arith, nat_tests)

-- THE LISTS
lean_left_pairs : (k v : ℕ) (l r : Tree) → pairs (lean_left k v l r) ≡ pairs l ++ pair k v ∷ pairs r
lean_left_pairs k v leaf r = refl
lean_left_pairs k v (node a b h ll leaf) r = sym (append_assoc (pairs ll) (pair a b ∷ []) (pair k v ∷ pairs r))
lean_left_pairs k v (node a b h ll (node c d i ml mr)) r = go (nat_lt (height ll) i)
  where
    go : (z : Bool) → pairs (if z then over c d (over a b ll ml) (over k v mr r)
        else over a b ll (over k v (node c d i ml mr) r))
        ≡ (pairs ll ++ pair a b ∷ (pairs ml ++ pair c d ∷ pairs mr)) ++ pair k v ∷ pairs r
    go true = append_assoc (pairs ll) (pair a b ∷ pairs ml) (pair c d ∷ (pairs mr ++ pair k v ∷ pairs r))
        ∙ (ap (λ (z : List Pair). pairs ll ++ pair a b ∷ z)
        (sym (append_assoc (pairs ml) (pair c d ∷ pairs mr) (pair k v ∷ pairs r)))
        ∙ sym (append_assoc (pairs ll) (pair a b ∷ (pairs ml ++ pair c d ∷ pairs mr)) (pair k v ∷ pairs r)))
    go false = sym (append_assoc (pairs ll) (pair a b ∷ (pairs ml ++ pair c d ∷ pairs mr)) (pair k v ∷ pairs r))

lean_right_pairs : (k v : ℕ) (l r : Tree) → pairs (lean_right k v l r) ≡ pairs l ++ pair k v ∷ pairs r
lean_right_pairs k v l leaf = refl
lean_right_pairs k v l (node a b h leaf rr) = append_assoc (pairs l) (pair k v ∷ []) (pair a b ∷ pairs rr)
lean_right_pairs k v l (node a b h (node c d i ml mr) rr) = go (nat_lt (height rr) i)
  where
    go : (z : Bool) → pairs (if z then over c d (over k v l ml) (over a b mr rr)
        else over a b (over k v l (node c d i ml mr)) rr)
        ≡ pairs l ++ pair k v ∷ ((pairs ml ++ pair c d ∷ pairs mr) ++ pair a b ∷ pairs rr)
    go true = append_assoc (pairs l) (pair k v ∷ pairs ml) (pair c d ∷ (pairs mr ++ pair a b ∷ pairs rr))
        ∙ ap (λ (z : List Pair). pairs l ++ pair k v ∷ z)
        (sym (append_assoc (pairs ml) (pair c d ∷ pairs mr) (pair a b ∷ pairs rr)))
    go false = append_assoc (pairs l) (pair k v ∷ (pairs ml ++ pair c d ∷ pairs mr)) (pair a b ∷ pairs rr)

pub join_pairs : (k v : ℕ) (l r : Tree) → pairs (join k v l r) ≡ pairs l ++ pair k v ∷ pairs r
join_pairs k v l r = go (outgrows l r) (outgrows r l)
  where
    go : (x y : Bool) → pairs (if x then lean_left k v l r else (if y then lean_right k v l r else over k v l r))
        ≡ pairs l ++ pair k v ∷ pairs r
    go true y = lean_left_pairs k v l r
    go false true = lean_right_pairs k v l r
    go false false = refl

-- THE HEIGHTS
lean_left_joined : (k v : ℕ) (l r : Tree) → Balanced l → Balanced r → height l ≡ suc (suc (height r))
    → Joined l r (lean_left k v l r)
lean_left_joined k v leaf r bl br e = absurd (omega arith)
lean_left_joined k v (node a b h ll leaf) r bl br e =
    let e0 = bl.0 in let e1 = bl.1 in let e2 = bl.2 in
    record {
      balanced = (refl, (omega arith), (omega arith), bl.3, (refl, (omega arith), (omega arith), tt, br));
      low = omega arith;
      high = omega arith;
      even = λ x y. absurd (omega arith);
    }
lean_left_joined k v (node a b h ll (node c d i ml mr)) r bl br e = go (nat_lt (height ll) i) refl
  where
    go : (z : Bool) → nat_lt (height ll) i ≡ z
        → Joined (node a b h ll (node c d i ml mr)) r (if z then over c d (over a b ll ml) (over k v mr r)
        else over a b ll (over k v (node c d i ml mr) r))
    go true is =
        let e0 = bl.0 in let e1 = bl.1 in let e2 = bl.2 in let m = bl.4 in
        let m0 = m.0 in let m1 = m.1 in let m2 = m.2 in
        let lt = lt_of (height ll) i is in
        record {
          balanced = (
            refl,
            (omega arith),
            (omega arith),
            (refl, (omega arith), (omega arith), bl.3, m.3),
            (refl, (omega arith), (omega arith), m.4, br),
          );
          low = omega arith;
          high = omega arith;
          even = λ x y. absurd (omega arith);
        }
    go false is =
        let e0 = bl.0 in let e1 = bl.1 in let e2 = bl.2 in let m = bl.4 in
        let m0 = m.0 in let m1 = m.1 in let m2 = m.2 in
        let le = le_of (height ll) i is in
        record {
          balanced = (refl, (omega arith), (omega arith), bl.3, (refl, (omega arith), (omega arith), m, br));
          low = omega arith;
          high = omega arith;
          even = λ x y. absurd (omega arith);
        }

lean_right_joined : (k v : ℕ) (l r : Tree) → Balanced l → Balanced r → height r ≡ suc (suc (height l))
    → Joined l r (lean_right k v l r)
lean_right_joined k v l leaf bl br e = absurd (omega arith)
lean_right_joined k v l (node a b h leaf rr) bl br e =
    let e0 = br.0 in let e1 = br.1 in let e2 = br.2 in
    record {
      balanced = (refl, (omega arith), (omega arith), (refl, (omega arith), (omega arith), bl, tt), br.4);
      low = omega arith;
      high = omega arith;
      even = λ x y. absurd (omega arith);
    }
lean_right_joined k v l (node a b h (node c d i ml mr) rr) bl br e = go (nat_lt (height rr) i) refl
  where
    go : (z : Bool) → nat_lt (height rr) i ≡ z
        → Joined l (node a b h (node c d i ml mr) rr) (if z then over c d (over k v l ml) (over a b mr rr)
        else over a b (over k v l (node c d i ml mr)) rr)
    go true is =
        let e0 = br.0 in let e1 = br.1 in let e2 = br.2 in let m = br.3 in
        let m0 = m.0 in let m1 = m.1 in let m2 = m.2 in
        let lt = lt_of (height rr) i is in
        record {
          balanced = (
            refl,
            (omega arith),
            (omega arith),
            (refl, (omega arith), (omega arith), bl, m.3),
            (refl, (omega arith), (omega arith), m.4, br.4),
          );
          low = omega arith;
          high = omega arith;
          even = λ x y. absurd (omega arith);
        }
    go false is =
        let e0 = br.0 in let e1 = br.1 in let e2 = br.2 in let m = br.3 in
        let m0 = m.0 in let m1 = m.1 in let m2 = m.2 in
        let le = le_of (height rr) i is in
        record {
          balanced = (refl, (omega arith), (omega arith), (refl, (omega arith), (omega arith), bl, m), br.4);
          low = omega arith;
          high = omega arith;
          even = λ x y. absurd (omega arith);
        }

pub join_joined : (k v : ℕ) (l r : Tree) → Balanced l → Balanced r → height l ≤ suc (suc (height r))
    → height r ≤ suc (suc (height l)) → Joined l r (join k v l r)
join_joined k v l r bl br x y = go (outgrows l r) refl (outgrows r l) refl
  where
    go : (z : Bool) → outgrows l r ≡ z → (w : Bool) → outgrows r l ≡ w
        → Joined l r (if z then lean_left k v l r else (if w then lean_right k v l r else over k v l r))
    go true e w f = let a = lt_of (suc (height r)) (height l) e in lean_left_joined k v l r bl br (omega arith)
    go false e true f = let a = lt_of (suc (height l)) (height r) f in lean_right_joined k v l r bl br (omega arith)
    go false e false f =
        let a = le_of (suc (height r)) (height l) e in
        let b = le_of (suc (height l)) (height r) f in
        record {
          balanced = (refl, (omega arith), (omega arith), bl, br);
          low = omega arith;
          high = omega arith;
          even = λ p q. refl;
        }
