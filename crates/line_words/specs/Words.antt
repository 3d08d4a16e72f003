-- The words of a line.
use Rattle.std.specs.Prelude.{ℕ, ◌==◌, Bool, true, List, [], ◌∷◌, map, slice_index, IsTrue}
use Rattle.std.specs.Borrow.{Bor}
use Rattle.cdrc_text.specs.Pieces.{fields_of}

-- the words: the maximal runs of bytes without Unicode white space, of any length
abbrev pub words_of : List ℕ → List (List ℕ)
words_of line = fields_of line

-- the bytes of words that are lent
abbrev pub texts_of : List (Bor (List ℕ)) → List (List ℕ)
texts_of words = map (λ word. word.now) words

-- the words are those of a line that is skipped: there are none, or the first one begins with `#`
abbrev pub is_blank : List (List ℕ) → Bool
is_blank [] = true
is_blank (word ∷ words) = slice_index word 0 == 35

-- the line is skipped
abbrev pub IsBlank : List ℕ → Type 0
IsBlank line = IsTrue (is_blank (words_of line))
