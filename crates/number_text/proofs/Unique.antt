-- The distinct numbers of some files are one list, and so their index is one.
use Rattle.std.proofs.Common.{◌≡◌, ℕ, suc, ◌<◌, ◌⊎◌, inl, inr, List, [], ◌∷◌, get_or, refl, sym, ap, ◌∙◌, arith}
use Rattle.std.proofs.lemmas.List.Elements.{Contains-append_cases, Contains-append_left, Contains-append_right, Contains-push, Contains-push_cases}
use Rattle.std.proofs.lemmas.Map.Keys.{below_from_sorted, sorted_from_strictly_increasing, sorted_tail}
use Rattle.std.specs.List.{Contains}
use Rattle.std.specs.List.Sorted.{IsStrictlySortedBy}
use Rattle.std.specs.Ordering.{nat_cmp}
use Rattle.number_text.specs.Counts.{AreDistinct}
use Rattle.number_text.specs.Index.{IsIndex, index_in}

-- each number is below those that follow it
abbrev pub Rises : List ℕ → Type 0
Rises = IsStrictlySortedBy nat_cmp

pub contains-first : (x : ℕ) (xs : List ℕ) → Contains (x ∷ xs) x
contains-first x xs = Contains-append_left (x ∷ []) xs x (Contains-push [] x)

pub contains-later : (x : ℕ) (xs : List ℕ) (y : ℕ) → Contains xs y → Contains (x ∷ xs) y
contains-later x xs y has = Contains-append_right (x ∷ []) xs y has

pub contains-none : (y : ℕ) → Contains [] y → ⊥
contains-none y has = omega (arith, has.1)

pub contains-cases : (x : ℕ) (xs : List ℕ) (y : ℕ) → Contains (x ∷ xs) y → (x ≡ y) ⊎ Contains xs y
contains-cases x xs y has = elim (Contains-append_cases (x ∷ []) xs y has) [
  | inl only ↦ elim (Contains-push_cases [] x y only) [ inl none ↦ absurd (contains-none y none) | inr same ↦ inl same ]
  | inr later ↦ inr later
]

-- a number is below each that follows it
pub below-later : (x : ℕ) (xs : List ℕ) (y : ℕ) → Rises (x ∷ xs) → Contains xs y → x < y
below-later x xs y rises has =
    let less : x < get_or xs has.0 y = below_from_sorted (x ∷ xs) 0 (suc has.0) y rises (omega arith) (omega (arith, has.1)) in
    omega (arith, less, has.2)

-- the first numbers are the same
same-first : (x y : ℕ) (xs ys : List ℕ) → Rises (x ∷ xs) → Rises (y ∷ ys) → Contains (y ∷ ys) x → Contains (x ∷ xs) y → x ≡ y
same-first x y xs ys left right there here = elim (contains-cases y ys x there) [
  | inl same ↦ sym same
  | inr later ↦ elim (contains-cases x xs y here) [
    | inl same ↦ same
    | inr last ↦ absurd (omega (arith, below-later x xs y left last, below-later y ys x right later))
  ]
]

-- what follows the first number there follows it here
tail-contains : (x y : ℕ) (xs ys : List ℕ) (n : ℕ) → Rises (x ∷ xs) → x ≡ y → Contains xs n → Contains (y ∷ ys) n → Contains ys n
tail-contains x y xs ys n rises same has there = elim (contains-cases y ys n there) [
  | inl is ↦ absurd (omega (arith, below-later x xs n rises has, same, is))
  | inr later ↦ later
]

-- rising lists with the same numbers are the same
same-rising : (xs ys : List ℕ) → Rises xs → Rises ys → ((n : ℕ) → Contains xs n → Contains ys n) → ((n : ℕ) → Contains ys n → Contains xs n) → xs ≡ ys
same-rising [] [] left right there here = refl
same-rising [] (y ∷ ys) left right there here = absurd (contains-none y (here y (contains-first y ys)))
same-rising (x ∷ xs) [] left right there here = absurd (contains-none x (there x (contains-first x xs)))
same-rising (x ∷ xs) (y ∷ ys) left right there here =
    let same = same-first x y xs ys left right (there x (contains-first x xs)) (here y (contains-first y ys)) in
    let rest = same-rising xs ys (sorted_tail nat_cmp x xs left) (sorted_tail nat_cmp y ys right)
    (λ n has. tail-contains x y xs ys n left same has (there n (contains-later x xs n has)))
    (λ n has. tail-contains y x ys xs n right (sym same) has (here n (contains-later y ys n has))) in
    cc

same-numbers : (files : List (List ℕ)) (numbers others : List ℕ) → AreDistinct files numbers → AreDistinct files others → numbers ≡ others
same-numbers files numbers others first second =
    same-rising numbers others
    (sorted_from_strictly_increasing numbers first.ascending) (sorted_from_strictly_increasing others second.ascending)
    (λ n has. (second.occurring n).1 ((first.occurring n).0 has)) (λ n has. (first.occurring n).1 ((second.occurring n).0 has))

pub same-index : (files : List (List ℕ)) (bytes others : List ℕ) → IsIndex files bytes → IsIndex files others → bytes ≡ others
same-index files bytes others first second =
    first.written ∙ ap (λ numbers. index_in numbers files) (same-numbers files first.numbers second.numbers first.distinct second.distinct) ∙ sym second.written
