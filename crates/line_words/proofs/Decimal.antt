-- The value of digits, read one by one and capped.
use Rattle.std.proofs.Common.{◌≡◌, ℕ, ◌+◌, ◌-◌, ◌*◌, ◌<◌, ◌⊎◌, inl, inr, min, List, [], ◌∷◌, length, take, get_or, refl, sym, ap, ◌∙◌, arith}
use Rattle.std.proofs.lemmas.List.Sums.{fold_more}
use Rattle.line_words.specs.Number.{value_of, IsDigits, IsNumber}

pub value_of-nil : value_of [] ≡ 0
unfolding value_of
value_of-nil = refl

-- one digit more
pub value_of-more : (digits : List ℕ) (i : ℕ) → i < length digits
    → value_of (take (i + 1) digits) ≡ value_of (take i digits) * 10 + (get_or digits i 0 - 48)
unfolding value_of
value_of-more digits i below = fold_more (λ value digit. value * 10 + (digit - 48)) 0 digits i 0 below

-- a number that is capped before each step is capped after it
pub min-step : (n digit most : ℕ) → min (min (min n most * 10) most + digit) most ≡ min (n * 10 + digit) most
min-step n digit most = omega arith

-- ---- a word spells one number

first-digit : (digits rest : List ℕ) → IsDigits digits → digits ≡ 43 ∷ rest → ⊥
first-digit digits rest are is =
    let digit = are.1 0 0 are.0 in
    let plus = ap (λ word. get_or word 0 0) is in
    omega (arith, digit.0, plus)

same-digits : (word xs ys : List ℕ) → IsDigits xs → IsDigits ys → (word ≡ xs) ⊎ (word ≡ 43 ∷ xs) → (word ≡ ys) ⊎ (word ≡ 43 ∷ ys) → xs ≡ ys
same-digits word xs ys first second (inl x) (inl y) = sym x ∙ y
same-digits word xs ys first second (inl x) (inr y) = absurd (first-digit xs ys first (sym x ∙ y))
same-digits word xs ys first second (inr x) (inl y) = absurd (first-digit ys xs second (sym y ∙ x))
same-digits word xs ys first second (inr x) (inr y) = let same = sym x ∙ y in cc

pub one-number_of : (word : List ℕ) (n m : ℕ) → IsNumber word n → IsNumber word m → n ≡ m
one-number_of word n m first second =
    first.value ∙ ap value_of (same-digits word first.digits second.digits first.decimal second.decimal first.sign second.sign) ∙ sym second.value
