-- What a tally counts more.
use Rattle.std.specs.Prelude.{◌≡◌, ℕ, ◌+◌, List, length}
use Rattle.cdrc_text.specs.Fold.{times}
use Rattle.cdrc_text.specs.Tally.{count_of, total_of}

-- the second tally counts these words more
pub record Tallies (words : List (List ℕ)) (before after : List (List ℕ × ℕ)) : Type 0 where
  pub counts : (w : List ℕ) → count_of after w ≡ count_of before w + times w words
  pub sum : total_of after ≡ total_of before + length words
