-- The first of a list, and the rest of it; a list with one more.
use Rattle.std.proofs.Common.{◌≡◌, suc, ◌+◌, ◌<◌, List, [], ◌∷◌, ◌++◌, length, length-append, sym, ap, ◌∙◌, subst, arith}
use Rattle.std.specs.Prelude.{All, slice_index_or}
use Rattle.std.specs.List.{remove}

module _ {X : Type 0} where
  pub first_and_rest : (xs : List X) (x : X) → 0 < length xs → x ≡ slice_index_or xs 0 x
      → xs ≡ x ∷ remove xs 0
  first_and_rest [] x some is = absurd (omega arith)
  first_and_rest (y ∷ ys) x some is = ap (λ (z : X). z ∷ ys) (sym is)

  pub all_rest : (P : X → Type 0) (xs ys : List X) (x : X) → xs ≡ x ∷ ys → All P xs → All P ys
  all_rest P xs ys x is all k other low =
      subst (λ (zs : List X). P (slice_index_or zs (suc k) other)) is
      (all (suc k) other (let l = ap length is in omega arith))

  pub all_first : (P : X → Type 0) (xs ys : List X) (x : X) → xs ≡ x ∷ ys → All P xs → P x
  all_first P xs ys x is all =
      subst (λ (zs : List X). P (slice_index_or zs 0 x)) is
      (all 0 x (let l = ap length is in omega arith))

  pub one_longer : (xs ys : List X) (x : X) → ys ≡ xs ++ x ∷ [] → length ys ≡ length xs + 1
  one_longer xs ys x is = ap length is ∙ length-append xs (x ∷ [])
