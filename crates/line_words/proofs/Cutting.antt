-- The first line of a text, and the lines after it.
use Rattle.std.proofs.Common.{◌≡◌, ℕ, suc, ◌+◌, ◌<◌, ◌≤◌, ◌==◌, Bool, true, false, cond, not, List, [], ◌∷◌, length, take, drop, nat_lt, refl, ap, arith}
use Rattle.std.proofs.lemmas.Bool.Decides.{nat_tests}
use Rattle.std.proofs.lemmas.List.Sums.{prefix_len-le-length}
use Rattle.std.specs.List.{position, position_or_len}
use Rattle.std.specs.Option.{unwrap_or}
use Rattle.line_words.specs.Lines.{lines_of, with_first}

-- the place of the first element that passes, or the length
pub position-or_len : {X : Type 0} (p : X → Bool) (xs : List X) → unwrap_or (position p xs) (length xs) ≡ position_or_len p xs
position-or_len p xs =
    let most = prefix_len-le-length (λ x. not (p x)) xs in
    by_test (nat_lt (position_or_len p xs) (length xs)) refl most
  where
    by_test : (b : Bool) → nat_lt (position_or_len p xs) (length xs) ≡ b → position_or_len p xs ≤ length xs
        → unwrap_or (position p xs) (length xs) ≡ position_or_len p xs
    by_test b is most = grind (arith, nat_tests)

-- how many bytes the first line has
abbrev pub first_line_len : List ℕ → ℕ
first_line_len text = position_or_len (λ byte. byte == 10) text

pub first_line_len-le : (text : List ℕ) → first_line_len text ≤ length text
first_line_len-le text = prefix_len-le-length (λ byte. not (byte == 10)) text

-- one byte more in front of a first line
with_first-more : (byte k : ℕ) (rest : List ℕ) → lines_of rest ≡ take k rest ∷ lines_of (drop 1 (drop k rest))
    → with_first byte (lines_of rest) ≡ take (1 + k) (byte ∷ rest) ∷ lines_of (drop 1 (drop (1 + k) (byte ∷ rest)))
with_first-more byte k rest is =
    let e : 1 + k ≡ suc k = omega arith in
    rw e (ap (with_first byte) is)

-- a text that isn't empty is its first line, and the lines after the line feed
pub lines_of-first : (text : List ℕ) → 0 < length text
    → lines_of text ≡ take (first_line_len text) text ∷ lines_of (drop 1 (drop (first_line_len text) text))
unfolding lines_of
lines_of-first [] some = absurd (omega arith)
lines_of-first (byte ∷ []) some = by_test (byte == 10)
  where
    by_test : (b : Bool) → cond b ([] ∷ lines_of []) (with_first byte (lines_of []))
        ≡ take (cond (not b) 1 0) (byte ∷ []) ∷ lines_of (drop 1 (drop (cond (not b) 1 0) (byte ∷ [])))
    by_test true = refl
    by_test false = refl
lines_of-first (byte ∷ (next ∷ rest)) some = by_test (byte == 10) (lines_of-first (next ∷ rest) (omega arith))
  where
    more : ℕ
    more = first_line_len (next ∷ rest)

    by_test : (b : Bool) → lines_of (next ∷ rest) ≡ take more (next ∷ rest) ∷ lines_of (drop 1 (drop more (next ∷ rest)))
        → cond b ([] ∷ lines_of (next ∷ rest)) (with_first byte (lines_of (next ∷ rest)))
        ≡ take (cond (not b) (1 + more) 0) (byte ∷ (next ∷ rest)) ∷ lines_of (drop 1 (drop (cond (not b) (1 + more) 0) (byte ∷ (next ∷ rest))))
    by_test true rest_is = refl
    by_test false rest_is = with_first-more byte more (next ∷ rest) rest_is

pub lines_of-nil : lines_of [] ≡ []
unfolding lines_of
lines_of-nil = refl
