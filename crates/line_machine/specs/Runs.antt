-- How a text of lines is run, by whoever takes them one by one.
use Rattle.std.specs.Prelude.{ℕ, ◌≡◌, ◌⊎◌, Bool, true, List, [], ◌∷◌, ◌++◌}
use Rattle.std.specs.Bool.{MatchBool}
use Rattle.line_words.specs.declared.reason.Reason.{Reason}
use Rattle.line_words.specs.Lines.{numbered_lines}
use Rattle.line_words.specs.Words.{words_of, is_blank}
use Rattle.line_words.specs.Refused.{refused_line}

-- What takes the lines is in one of the states S. A line's words lead from a state to another and write some bytes, or
-- are refused there for a reason; the end of the text writes some bytes, and may be a refusal too.
module _ {S : Type 0} (Takes : S → List (List ℕ) → List ℕ → S → Type 0)
    (Refuses : S → List (List ℕ) → Reason → Type 0) (Ends : S → List ℕ → Bool → Type 0) where
  -- from the state s these lines, with their numbers, write these bytes and lead to the state `last`; `refused` tells
  -- whether one is refused, which leaves the state, and after which nothing is run
  abbrev pub Goes : S → List (ℕ × List ℕ) → List ℕ → Bool → S → Type 0
  Goes s [] bytes refused last = Ends s bytes refused × (last ≡ s)
  Goes s (line ∷ lines) bytes refused last =
      MatchBool (is_blank (words_of line.1))
      (Goes s lines bytes refused last)
      (((out : List ℕ) × (rest : List ℕ) × (next : S) × Takes s (words_of line.1) out next
      × Goes next lines rest refused last × (bytes ≡ out ++ rest))
      ⊎ ((reason : Reason) × Refuses s (words_of line.1) reason
      × (bytes ≡ refused_line line.0 reason) × (refused ≡ true) × (last ≡ s)))

  -- so does the whole text
  abbrev pub IsRun : S → List ℕ → List ℕ → Bool → S → Type 0
  IsRun s text bytes refused last = Goes s (numbered_lines text) bytes refused last

  -- nothing is left open: in each state,
  pub record IsDefinite : Type 0 where
    -- words that are taken write one output and lead to one state,
    pub one_step : (s : S) (words : List (List ℕ)) (out others : List ℕ) (next after : S)
        → Takes s words out next → Takes s words others after → (out ≡ others) × (next ≡ after)
    -- and aren't refused;
    pub not_refused : (s : S) (words : List (List ℕ)) (out : List ℕ) (next : S) (reason : Reason)
        → Takes s words out next → Refuses s words reason → ⊥
    -- words are refused for one reason;
    pub one_reason : (s : S) (words : List (List ℕ)) (reason other : Reason)
        → Refuses s words reason → Refuses s words other → reason ≡ other
    -- and the end of the text writes one output, and is a refusal or isn't
    pub one_end : (s : S) (out others : List ℕ) (refused other : Bool)
        → Ends s out refused → Ends s others other → (out ≡ others) × (refused ≡ other)
