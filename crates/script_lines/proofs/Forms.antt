-- The words of a list, one by one.
use Rattle.std.proofs.Common.{ℕ, List, [], ◌∷◌, get_or}
use Rattle.std.specs.Borrow.{Bor}
use Rattle.line_words.specs.Words.{texts_of}
use Rattle.script_lines.specs.Spelling.{Each}

module _ (d : Bor (List ℕ)) (F G : List ℕ → Type 0) where
  -- each of two words has its form
  pub each-two : (words : List (Bor (List ℕ))) → Each (F ∷ G ∷ []) (texts_of words) → F (get_or words 0 d).now × G (get_or words 1 d).now
  each-two [] has = absurd has
  each-two (first ∷ []) has = absurd has.1
  each-two (first ∷ (second ∷ [])) has = (has.0, has.1.0)
  each-two (first ∷ (second ∷ (third ∷ words))) has = absurd has.1.1

module _ (d : Bor (List ℕ)) (F G H : List ℕ → Type 0) where
  -- each of three words has its form
  pub each-three : (words : List (Bor (List ℕ))) → Each (F ∷ G ∷ H ∷ []) (texts_of words)
      → F (get_or words 0 d).now × G (get_or words 1 d).now × H (get_or words 2 d).now
  each-three [] has = absurd has
  each-three (first ∷ []) has = absurd has.1
  each-three (first ∷ (second ∷ [])) has = absurd has.1.1
  each-three (first ∷ (second ∷ (third ∷ []))) has = (has.0, has.1.0, has.1.1.0)
  each-three (first ∷ (second ∷ (third ∷ (fourth ∷ words)))) has = absurd has.1.1.1
