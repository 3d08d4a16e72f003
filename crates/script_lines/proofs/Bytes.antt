-- The first byte of a word, as a test on its first bytes tells it.
use Rattle.std.proofs.Common.{◌≡◌, ℕ, true, false, List, [], ◌∷◌, take, drop, sym, ap, ◌∙◌}
use Rattle.std.specs.Cmp.Lexicographic.{bytes_decides}
use Rattle.std.specs.Str.{bytes_eq}

pub first-byte : (byte : ℕ) (word index : List ℕ) → bytes_eq (take 1 word) (byte ∷ []) ≡ true → index ≡ drop 1 word → word ≡ byte ∷ index
first-byte byte [] index is rest = let wrong = (bytes_decides [] (byte ∷ [])).0 is in cc
first-byte byte (first ∷ bytes) index is rest = let same : first ∷ [] ≡ byte ∷ [] = (bytes_decides (first ∷ []) (byte ∷ [])).0 is in cc

pub other-byte : (byte : ℕ) (word index : List ℕ) → bytes_eq (take 1 word) (byte ∷ []) ≡ false → word ≡ byte ∷ index → ⊥
other-byte byte word index other is =
    let front : take 1 word ≡ byte ∷ [] = ap (take 1) is in
    let wrong : true ≡ false = sym ((bytes_decides (take 1 word) (byte ∷ [])).1 front) ∙ other in
    cc
