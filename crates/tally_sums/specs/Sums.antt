-- The words that some tallies counted, and how often.
use Rattle.std.specs.Prelude.{◌≡◌, ◌+◌, ◌<◌, ◌↔◌, ℕ, List, [], ◌∷◌, length, slice_index_or, if◌then◌else◌, Result, IfOk}
use Rattle.std.specs.Borrow.{Bor}
use Rattle.std.specs.Global.{Vec}
use Rattle.std.specs.List.{All, Contains, sum_by}
use Rattle.std.specs.Map.{keys_of, values_of}
use Rattle.std.specs.Str.{bytes_eq}
use Rattle.cdrc_text.specs.Fold.{IsInByteOrder}
use Rattle.cdrc_text.specs.Tally.{ListsWords, count_of, shown_entries}

-- words with their counts, of each tally
abbrev pub Tallies : Type 0
Tallies = List (List (List ℕ × ℕ))

-- how often the tallies counted w, in all
abbrev pub counted_in : Tallies → List ℕ → ℕ
counted_in tallies w = sum_by (λ (t : List (List ℕ × ℕ)). count_of t w) tallies

-- the words that some tally counted, each once, in byte order
pub record AreCounted (tallies : Tallies) (words : List (List ℕ)) : Type 0 where
  pub in_order : IsInByteOrder words
  pub counted : (w : List ℕ) → Contains words w ↔ (0 < counted_in tallies w)

-- the number is how often the tallies counted the word, in all
abbrev pub IsSum : Tallies → List ℕ × ℕ → Type 0
IsSum tallies row = row.1 ≡ counted_in tallies row.0

-- the words that some tally counted, each once, in byte order, and with that number
pub record SumsUp (tallies : Tallies) (rows : List (List ℕ × ℕ)) : Type 0 where
  pub words : AreCounted tallies (keys_of rows)
  pub sums : All (IsSum tallies) rows

-- what the entries of w add up to
abbrev pub sum_for : List ℕ → List (List ℕ × ℕ) → ℕ
sum_for w entries = sum_by (λ (e : List ℕ × ℕ). if bytes_eq w e.0 then e.1 else 0) entries

-- the entries of a word add up to what the tallies counted, and each entry counts something
pub record ListsEach (tallies : Tallies) (entries : List (List ℕ × ℕ)) : Type 0 where
  pub sums : (w : List ℕ) → sum_for w entries ≡ counted_in tallies w
  pub positive : All (λ count. 0 < count) (values_of entries)

-- of each tally the words with their counts, where there was memory for them
pub record AreListed {E : Type 0} (tallies : Tallies)
    (lists : List (Result (Vec (Bor (List ℕ) × ℕ)) E)) : Type 0 where
  pub many : length lists ≡ length tallies
  pub each : (i : ℕ) (d : Result (Vec (Bor (List ℕ) × ℕ)) E) → i < length tallies
      → IfOk (slice_index_or lists i d)
      (λ rows. ListsWords (slice_index_or tallies i []) (shown_entries rows.items))

-- an entry and those behind it, where an entry joins the one before it that has the same word
abbrev pub added_to : List ℕ × ℕ → List (List ℕ × ℕ) → List (List ℕ × ℕ)
added_to last [] = last ∷ []
added_to last (e ∷ es) =
    if bytes_eq e.0 last.0 then added_to (last.0, last.1 + e.1) es else last ∷ added_to e es

abbrev pub added_up : List (List ℕ × ℕ) → List (List ℕ × ℕ)
added_up [] = []
added_up (e ∷ es) = added_to e es
