-- The lines of a text have no line feed, and joined they are the text.
use Rattle.std.proofs.Common.{◌≡◌, ◌≢◌, ℕ, ◌==◌, Bool, true, false, cond, ◌⊎◌, inl, inr, List, [], ◌∷◌, ◌++◌, length, refl, ap, ◌∙◌, arith, length-append}
use Rattle.std.proofs.lemmas.Bool.Decides.{nat_tests}
use Rattle.std.proofs.lemmas.List.Elements.{All-cons, All-head, All-nil, All-tail}
use Rattle.std.specs.List.{All}
use Rattle.line_words.specs.Lines.{joined_lines, lines_of, with_first}

-- the line has no line feed
abbrev pub IsOneLine : List ℕ → Type 0
IsOneLine line = All (λ byte. byte ≢ 10) line

All-with_first : (byte : ℕ) (lines : List (List ℕ)) → byte ≢ 10 → All IsOneLine lines → All IsOneLine (with_first byte lines)
All-with_first byte [] other all = All-cons IsOneLine (byte ∷ []) [] (All-cons (λ b. b ≢ 10) byte [] other (All-nil (λ b. b ≢ 10))) (All-nil IsOneLine)
All-with_first byte (line ∷ lines) other all =
    All-cons IsOneLine (byte ∷ line) lines (All-cons (λ b. b ≢ 10) byte line other (All-head IsOneLine line lines all)) (All-tail IsOneLine line lines all)

pub All-lines_of : (text : List ℕ) → All IsOneLine (lines_of text)
unfolding lines_of
All-lines_of [] = All-nil IsOneLine
All-lines_of (byte ∷ rest) = by_test (byte == 10) refl (All-lines_of rest)
  where
    by_test : (b : Bool) → (byte == 10) ≡ b → All IsOneLine (lines_of rest)
        → All IsOneLine (cond b ([] ∷ lines_of rest) (with_first byte (lines_of rest)))
    by_test true is all = All-cons IsOneLine [] (lines_of rest) (All-nil (λ b. b ≢ 10)) all
    by_test false is all = let other : byte ≢ 10 = grind (arith, nat_tests) in All-with_first byte (lines_of rest) other all

-- the lines joined are the text, or the text and a line feed
abbrev pub IsText : List (List ℕ) → List ℕ → Type 0
IsText lines text = (joined_lines lines ≡ text) ⊎ (joined_lines lines ≡ text ++ 10 ∷ [])

joined-with_first : (byte : ℕ) (rest : List ℕ) (lines : List (List ℕ)) → IsText lines rest → IsText (with_first byte lines) (byte ∷ rest)
joined-with_first byte rest [] (inl is) = inr (ap (λ text. byte ∷ (text ++ 10 ∷ [])) is)
joined-with_first byte rest [] (inr is) = absurd (omega (arith, ap length is, length-append rest (10 ∷ [])))
joined-with_first byte rest (line ∷ lines) (inl is) = inl (ap (λ text. byte ∷ text) is)
joined-with_first byte rest (line ∷ lines) (inr is) = inr (ap (λ text. byte ∷ text) is)

pub joined-lines_of : (text : List ℕ) → IsText (lines_of text) text
unfolding lines_of
joined-lines_of [] = inl refl
joined-lines_of (byte ∷ rest) = by_test (byte == 10) refl (joined-lines_of rest)
  where
    by_test : (b : Bool) → (byte == 10) ≡ b → IsText (lines_of rest) rest
        → IsText (cond b ([] ∷ lines_of rest) (with_first byte (lines_of rest))) (byte ∷ rest)
    by_test true is (inl text) = let feed : 10 ≡ byte = grind (arith, nat_tests) in inl (ap (λ t. 10 ∷ t) text ∙ ap (λ b. b ∷ rest) feed)
    by_test true is (inr text) = let feed : 10 ≡ byte = grind (arith, nat_tests) in inr (ap (λ t. 10 ∷ t) text ∙ ap (λ b. b ∷ (rest ++ 10 ∷ [])) feed)
    by_test false is text = joined-with_first byte rest (lines_of rest) text
