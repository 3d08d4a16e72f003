-- What a scan notes of the announcement words that it reads: how often it read each of them.
use Rattle.std.specs.Prelude.{ℕ, ◌<◌, ◌+◌, ◌==◌, if◌then◌else◌, List, [], ◌∷◌}
use Rattle.std.specs.List.{fold, sum_by}
use Rattle.std.proofs.Math.Dec.{leb}
use Rattle.announce_slots.specs.plain_state.declared.slot.Kind.{Kind}
use Rattle.announce_slots.specs.plain_state.declared.slot.SlotId.{SlotId}
use Rattle.announce_slots.specs.Words.{code}
use Rattle.eject_scan.specs.declared.seen.Row.{Row}

-- each word is greater than the one before it, and the first is greater than `below`
abbrev pub IsAscending : ℕ → List Row → Type 0
IsAscending below [] = Unit {0}
IsAscending below (r ∷ rs) = (below < r.word) × IsAscending r.word rs

-- the rows once a word is noted that announces something: its row has one more, and if it has none
-- it gets one before the first greater word
unfoldable pub note_in : ℕ → List Row → List Row
note_in w [] = record { word = w; times = 1 } ∷ []
note_in w (r ∷ rs) =
    if w == r.word then record r { times = r.times + 1 } ∷ rs
    else if leb w r.word then record { word = w; times = 1 } ∷ r ∷ rs
    else r ∷ note_in w rs

-- the rows once a word is noted. One of 0 announces nothing
abbrev pub with_word : ℕ → List Row → List Row
with_word w rows = if w == 0 then rows else note_in w rows

-- what was noted of these words
abbrev pub noted : List ℕ → List Row
noted words = fold (λ rows w. with_word w rows) [] words

-- how often a word was noted
abbrev pub times_noted : ℕ → List Row → ℕ
times_noted w rows = sum_by (λ r. if r.word == w then r.times else 0) rows

-- how many words were noted
abbrev pub total : List Row → ℕ
total rows = sum_by (λ r. r.times) rows

-- how often the slot was announced under this kind
abbrev pub announced : List Row → Kind → SlotId → ℕ
announced rows kind slot = times_noted (code kind slot) rows

-- what is kept of the words noted, and room for so many
pub record Noted : Type 0 where
  pub rows : List Row
  pub room : ℕ
