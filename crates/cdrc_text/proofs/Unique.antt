-- The distinct words of some files are one list, and so their text is one.
use Rattle.std.proofs.Common.{◌≡◌, ℕ, zero, suc, ◌<◌, ◌⊎◌, inl, inr, List, [], ◌∷◌, length, get_or, refl, sym, ap, subst, ◌∙◌, arith}
use Rattle.std.proofs.lemmas.Cmp.{nat_list_cmp_total}
use Rattle.std.proofs.lemmas.List.Elements.{All-contains, All-from_recursion}
use Rattle.std.proofs.lemmas.Map.Keys.{sorted_head, sorted_tail}
use Rattle.std.specs.Cmp.Lexicographic.{slice_cmp}
use Rattle.std.specs.declared.cmp.Ordering.TheVariants.{Less, Greater}
use Rattle.std.specs.List.{Contains}
use Rattle.std.specs.Ordering.{nat_cmp, ordering_reverse}
use Rattle.cdrc_text.specs.Fold.{AreDistinct, File, IsInByteOrder}
use Rattle.cdrc_text.specs.Text.{IsReport, report_in}

-- the first element, or one of the others
first_or_later : (x : List ℕ) (xs : List (List ℕ)) (y : List ℕ) (k : ℕ) → k < length (x ∷ xs) → get_or (x ∷ xs) k y ≡ y → (x ≡ y) ⊎ Contains xs y
first_or_later x xs y zero below is = inl is
first_or_later x xs y (suc k) below is = let fits : k < length xs = omega arith in inr (k, fits, is)

pub cases-cons : (x : List ℕ) (xs : List (List ℕ)) (y : List ℕ) → Contains (x ∷ xs) y → (x ≡ y) ⊎ Contains xs y
cases-cons x xs y has = first_or_later x xs y has.0 has.1 has.2

pub Contains-first : (x : List ℕ) (xs : List (List ℕ)) → Contains (x ∷ xs) x
Contains-first x xs = (0, omega arith, refl)

pub Contains-later : (x : List ℕ) (xs : List (List ℕ)) (y : List ℕ) → Contains xs y → Contains (x ∷ xs) y
Contains-later x xs y has = let fits : suc has.0 < length (x ∷ xs) = omega (arith, has.1) in (suc has.0, fits, has.2)

-- a word is below each that follows it
pub below-later : (x : List ℕ) (xs : List (List ℕ)) (y : List ℕ) → IsInByteOrder (x ∷ xs) → Contains xs y → slice_cmp nat_cmp x y ≡ Less
below-later x xs y sorted has =
    All-contains (λ v. slice_cmp nat_cmp x v ≡ Less) xs y
    (All-from_recursion (λ v. slice_cmp nat_cmp x v ≡ Less) xs (sorted_head (slice_cmp nat_cmp) x xs sorted)) has

-- no two words are each below the other
pub not-both : (x y : List ℕ) → slice_cmp nat_cmp x y ≡ Less → slice_cmp nat_cmp y x ≡ Less → ⊥
not-both x y first second =
    let turned : Less ≡ Greater = sym first ∙ nat_list_cmp_total.antisymm x y ∙ ap ordering_reverse second in
    cc

-- the first words are the same
same-first : (x y : List ℕ) (xs ys : List (List ℕ)) → IsInByteOrder (x ∷ xs) → IsInByteOrder (y ∷ ys) → Contains (y ∷ ys) x → Contains (x ∷ xs) y → x ≡ y
same-first x y xs ys left right there here = elim (cases-cons y ys x there) [
  | inl same ↦ sym same
  | inr later ↦ elim (cases-cons x xs y here) [
    | inl same ↦ same
    | inr last ↦ absurd (not-both x y (below-later x xs y left last) (below-later y ys x right later))
  ]
]

-- what follows the first word there follows it here
tail-contains : (x y : List ℕ) (xs ys : List (List ℕ)) (w : List ℕ) → IsInByteOrder (x ∷ xs) → x ≡ y → Contains xs w → Contains (y ∷ ys) w → Contains ys w
tail-contains x y xs ys w sorted same has there = elim (cases-cons y ys w there) [
  | inl is ↦ let less = below-later x xs w sorted has in let level = subst (λ v. slice_cmp nat_cmp v w ≡ Less) (same ∙ is) less in absurd (not-both w w level level)
  | inr later ↦ later
]

-- lists in byte order with the same words are the same
same-in_order : (xs ys : List (List ℕ)) → IsInByteOrder xs → IsInByteOrder ys → ((w : List ℕ) → Contains xs w → Contains ys w)
    → ((w : List ℕ) → Contains ys w → Contains xs w) → xs ≡ ys
same-in_order [] [] left right there here = refl
same-in_order [] (y ∷ ys) left right there here = let has = here y (Contains-first y ys) in absurd (omega (arith, has.1))
same-in_order (x ∷ xs) [] left right there here = let has = there x (Contains-first x xs) in absurd (omega (arith, has.1))
same-in_order (x ∷ xs) (y ∷ ys) left right there here =
    let same = same-first x y xs ys left right (there x (Contains-first x xs)) (here y (Contains-first y ys)) in
    let rest = same-in_order xs ys (sorted_tail (slice_cmp nat_cmp) x xs left) (sorted_tail (slice_cmp nat_cmp) y ys right)
    (λ w has. tail-contains x y xs ys w left same has (there w (Contains-later x xs w has)))
    (λ w has. tail-contains y x ys xs w right (sym same) has (here w (Contains-later y ys w has))) in
    cc

pub same-words : (files : List File) (words others : List (List ℕ)) → AreDistinct files words → AreDistinct files others → words ≡ others
same-words files words others first second =
    same-in_order words others first.in_order second.in_order
    (λ w has. (second.held w).1 ((first.held w).0 has)) (λ w has. (first.held w).1 ((second.held w).0 has))

pub same-text : (files : List File) (rounds : ℕ) (bytes others : List ℕ) → IsReport files rounds bytes → IsReport files rounds others → bytes ≡ others
same-text files rounds bytes others first second =
    first.written ∙ ap (λ words. report_in words files rounds) (same-words files first.words second.words first.distinct second.distinct) ∙ sym second.written
