-- The records of words that were counted, as a seat that is alone tells them.
use Rattle.std.specs.Prelude.{◌^◌, ◌<◌, ◌≤◌, ℕ, List, length, map}
use Rattle.cell_intern.specs.cell_calls.cell_law.declared.view.View.{View}
use Rattle.cell_intern.specs.cell_calls.cell_law.plain_state.declared.slot.SlotId.{SlotId}
use Rattle.cell_rest.specs.Kept.{TellsWord}
use Rattle.cell_records.specs.declared.records.WordRecord.{WordRecord}
use Rattle.tally_sums.specs.Sums.{Tallies, counted_in}

-- each word that was counted has 1 to 4,096 bytes, and was counted fewer than 2^63 times
abbrev pub AreWords : Tallies → Type 0
AreWords tallies =
    (w : List ℕ) → 0 < counted_in tallies w
    → (1 ≤ length w) × (length w ≤ 4096) × (counted_in tallies w < 2 ^ 63)

-- the view tells the word of some slot
abbrev pub IsTold : View → List ℕ → Type 0
IsTold v w = (s : SlotId) × TellsWord v w s

-- the view tells each word that was counted
abbrev pub AreTold : Tallies → View → Type 0
AreTold tallies v = (w : List ℕ) → 0 < counted_in tallies w → IsTold v w

-- the words of some records, their slots, and the words with their numbers
abbrev pub words_in : List WordRecord → List (List ℕ)
words_in records = map (λ (r : WordRecord). r.word.now) records

abbrev pub slots_in : List WordRecord → List SlotId
slots_in records = map (λ (r : WordRecord). r.slot) records

abbrev pub sums_in : List WordRecord → List (List ℕ × ℕ)
sums_in records = map (λ (r : WordRecord). (r.word.now, r.occurrences)) records

-- the view tells the record's word of the record's slot
abbrev pub IsRecordOf : View → WordRecord → Type 0
IsRecordOf v r = TellsWord v r.word.now r.slot
