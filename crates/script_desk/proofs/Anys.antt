-- What holds of some element of lists that are joined, and a test that says so.
use Rattle.std.proofs.Common.{◌≡◌, ◌⊎◌, ⊎_elim, inl, inr, ◌↔◌, zero, suc, Bool, true, false, List, [], ◌∷◌, ◌++◌, refl, sym, subst, arith, IsTrue}
use Rattle.std.specs.List.{Any}

true_false : (b : Bool) → b ≡ true → b ≡ false → ⊥
true_false b t f = cc

module _ {X : Type 0} (P : X → Type 0) where
  pub any_none : Any P [] → ⊥
  any_none (k, x, lt, at, p) = absurd (omega arith)

  pub any_head : (x : X) (xs : List X) → P x → Any P (x ∷ xs)
  any_head x xs p = (0, x, omega arith, refl, p)

  pub any_tail : (x : X) (xs : List X) → Any P xs → Any P (x ∷ xs)
  any_tail x xs (k, y, lt, at, p) = (suc k, y, omega arith, at, p)

  pub any_cons : (x : X) (xs : List X) → Any P (x ∷ xs) → P x ⊎ Any P xs
  any_cons x xs (zero, y, lt, at, p) = inl (subst P (sym at) p)
  any_cons x xs (suc k, y, lt, at, p) = inr (k, y, omega arith, at, p)

  pub any_left : (xs ys : List X) → Any P xs → Any P (xs ++ ys)
  any_left [] ys a = absurd (any_none a)
  any_left (x ∷ xs) ys a = ⊎_elim (λ p. any_head x (xs ++ ys) p) (λ b. any_tail x (xs ++ ys) (any_left xs ys b)) (any_cons x xs a)

  pub any_right : (xs ys : List X) → Any P ys → Any P (xs ++ ys)
  any_right [] ys a = a
  any_right (x ∷ xs) ys a = any_tail x (xs ++ ys) (any_right xs ys a)

  pub any_cases : (xs ys : List X) → Any P (xs ++ ys) → Any P xs ⊎ Any P ys
  any_cases [] ys a = inr a
  any_cases (x ∷ xs) ys a =
      ⊎_elim (λ p. inl (any_head x xs p)) (λ b. ⊎_elim (λ l. inl (any_tail x xs l)) (λ r. inr r) (any_cases xs ys b)) (any_cons x (xs ++ ys) a)

  -- a test of one element
  pub tests_one : (b : Bool) (x : X) → IsTrue b ↔ P x → IsTrue b ↔ Any P (x ∷ [])
  tests_one b x e = (λ t. any_head x [] (e.0 t), λ a. e.1 (⊎_elim (λ p. p) (λ r. absurd (any_none r)) (any_cons x [] a)))

  -- the first of two tests, where it says yes, and the second, where the first says no
  pub either_first : (b : Bool) (xs ys : List X) → b ≡ true → IsTrue b ↔ Any P xs → IsTrue b ↔ Any P (xs ++ ys)
  either_first b xs ys t e = (λ u. any_left xs ys (e.0 u), λ a. t)

  pub either_second : (b c : Bool) (xs ys : List X) → b ≡ false → IsTrue b ↔ Any P xs → IsTrue c ↔ Any P ys → IsTrue c ↔ Any P (xs ++ ys)
  either_second b c xs ys n e f = (
    λ t. any_right xs ys (f.0 t),
    λ a. ⊎_elim (λ l. absurd (true_false b (e.1 l) n)) (λ r. f.1 r) (any_cases xs ys a),
  )
