-- Paths along a list, one step at a time.
use Rattle.std.proofs.Common.{◌≡◌, ℕ, ◌+◌, ◌<◌, ◌≤◌, List, [], ◌∷◌, ◌++◌, length, get_or, drop, reverse, sym, ap, subst, inl, inr, arith, length-append}
use Rattle.std.proofs.lemmas.List.{drop_more, drop_all, reverse-append}
use Rattle.heap_audit.specs.Paths.{Path, LeadsTo}

module _ {A : Type 0} (R : A → A → Type 0) (x z : A) (xs : List A) (i : ℕ) where
  -- the way by what is left of a list goes to its next element first
  pub path_first : (d : A) → i < length xs → Path R x (drop i xs) z → R x (get_or xs i d) × Path R (get_or xs i d) (drop (i + 1) xs) z
  path_first d h p = subst (λ (ys : List A). Path R x ys z) (drop_more xs i d h) p

  pub path_from_first : (d : A) → i < length xs → R x (get_or xs i d) → Path R (get_or xs i d) (drop (i + 1) xs) z → Path R x (drop i xs) z
  path_from_first d h r p = subst (λ (ys : List A). Path R x ys z) (sym (drop_more xs i d h)) (r, p)

  -- and where nothing is left it is one step
  pub path_last : length xs ≤ i → Path R x (drop i xs) z → R x z
  path_last h p = subst (λ (ys : List A). Path R x ys z) (drop_all i xs h) p

  pub path_from_last : length xs ≤ i → R x z → Path R x (drop i xs) z
  path_from_last h r = subst (λ (ys : List A). Path R x ys z) (sym (drop_all i xs h)) r

-- one step more
pub path_push : {A : Type 0} (R : A → A → Type 0) (x : A) (ys : List A) (y z : A) → Path R x ys y → R y z → Path R x (ys ++ y ∷ []) z
path_push R x [] y z p r = (p, r)
path_push R x (w ∷ ys) y z p r = (p.0, path_push R w ys y z p.1 r)

pub leads_on : {A : Type 0} (R : A → A → Type 0) (x y z : A) → LeadsTo R x y → R y z → LeadsTo R x z
leads_on {A} R x y z l r =
    elim l [
      | inl e ↦ inr ([], subst (λ (a : A). R a z) (sym e) r)
      | inr p ↦ inr (p.0 ++ y ∷ [], path_push R x p.0 y z p.1 r)
    ]

-- a path that goes by way of z, cut there, and two paths joined
pub path_split : {A : Type 0} (R : A → A → Type 0) (x : A) (xs : List A) (y : A) (ys : List A) (z : A) → Path R x (xs ++ y ∷ ys) z → Path R x xs y × Path R y ys z
path_split R x [] y ys z p = p
path_split R x (w ∷ xs) y ys z p =
    let parts = path_split R w xs y ys z p.1 in
    ((p.0, parts.0), parts.1)

pub path_join : {A : Type 0} (R : A → A → Type 0) (x : A) (xs : List A) (y : A) (ys : List A) (z : A) → Path R x xs y → Path R y ys z → Path R x (xs ++ y ∷ ys) z
path_join R x [] y ys z p q = (p, q)
path_join R x (w ∷ xs) y ys z p q = (p.0, path_join R w xs y ys z p.1 q)

-- the end of a path
pub path_end : {A : Type 0} (R : A → A → Type 0) (x : A) (xs front : List A) (y : A) (back : List A) (z : A) → x ∷ xs ≡ front ++ y ∷ back → Path R x xs z → Path R y back z
path_end {A} R x xs [] y back z e p =
    let head : x ≡ y = cc in
    let tail : xs ≡ back = cc in
    subst (λ (a : A). Path R a back z) head (subst (λ (ws : List A). Path R x ws z) tail p)
path_end {A} R x [] (w ∷ front) y back z e p =
    let none : [] ≡ front ++ y ∷ back = cc in
    absurd (omega (arith, ap length none, length-append front (y ∷ back)))
path_end {A} R x (v ∷ xs) (w ∷ front) y back z e p =
    let rest : v ∷ xs ≡ front ++ y ∷ back = cc in
    path_end R v xs front y back z rest p.1

-- a path the other way round
pub path_reverse : {A : Type 0} (R : A → A → Type 0) (x : A) (ys : List A) (z : A) → Path (λ a b. R b a) x ys z → Path R z (reverse ys) x
path_reverse R x [] z p = p
path_reverse {A} R x (y ∷ ys) z p =
    subst (λ (ws : List A). Path R z ws x) (sym (reverse-append (y ∷ []) ys)) (path_push R z (reverse ys) y x (path_reverse R y ys z p.1) p.0)

-- a path in steps of another relation, where each step that can come is such a step and leads on
pub path_map : {A : Type 0} (P : A → Type 0) (R S : A → A → Type 0) → ((a b : A) → P a → R a b → S a b × P b)
    → (x : A) (ys : List A) (z : A) → P x → Path R x ys z → Path S x ys z
path_map P R S f x [] z h p = (f x z h p).0
path_map P R S f x (y ∷ ys) z h p = let step = f x y h p.0 in (step.0, path_map P R S f y ys z step.1 p.1)
