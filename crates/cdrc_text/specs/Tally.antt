-- Words with their counts, in any order.
use Rattle.std.specs.Prelude.{◌≡◌, ℕ, ◌+◌, ◌<◌, if◌then◌else◌, List, map}
use Rattle.std.specs.Borrow.{Bor}
use Rattle.std.specs.Global.{Vec}
use Rattle.std.specs.List.{All, sum}
use Rattle.std.specs.Map.{keys_of, lookup, values_of}
use Rattle.std.specs.Option.{unwrap_or}
use Rattle.std.specs.Str.{bytes_eq}
use Rattle.cdrc_text.specs.Fold.{IsInByteOrder}

-- the entries of a map or of a list of words, with the words' bytes
abbrev pub entry_of : Vec ℕ × ℕ → List ℕ × ℕ
entry_of entry = (entry.0.items, entry.1)

abbrev pub entries_of : List (Vec ℕ × ℕ) → List (List ℕ × ℕ)
entries_of entries = map entry_of entries

-- the same of words that are borrowed
abbrev pub shown_entry : Bor (List ℕ) × ℕ → List ℕ × ℕ
shown_entry entry = (entry.0.now, entry.1)

abbrev pub shown_entries : List (Bor (List ℕ) × ℕ) → List (List ℕ × ℕ)
shown_entries entries = map shown_entry entries

-- how often w was counted
unfoldable pub count_of : List (List ℕ × ℕ) → List ℕ → ℕ
count_of counted w = unwrap_or (lookup (bytes_eq w) counted) 0

-- how much was counted in all
unfoldable pub total_of : List (List ℕ × ℕ) → ℕ
total_of counted = sum (values_of counted)

-- the second counts w once more than the first, and every other word as often
pub record CountsOneMore (before after : List (List ℕ × ℕ)) (w : List ℕ) : Type 0 where
  pub counts : (v : List ℕ) → count_of after v ≡ count_of before v + (if bytes_eq v w then 1 else 0)
  pub total : total_of after ≡ total_of before + 1

-- the rows are the words that were counted, each once and with its count, in byte order
pub record ListsWords (counted rows : List (List ℕ × ℕ)) : Type 0 where
  pub in_order : IsInByteOrder (keys_of rows)
  pub counts : (w : List ℕ) → count_of rows w ≡ count_of counted w
  pub total : total_of rows ≡ total_of counted
  pub positive : All (λ count. 0 < count) (values_of rows)
