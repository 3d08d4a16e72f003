-- The record and the row of a word, as a seat that is alone tells them.
use Rattle.std.specs.Prelude.{◌≡◌, ◌^◌, ◌<◌, ◌≤◌, ℕ, List, [], ◌∷◌, length, map}
use Rattle.law_lesson.specs.plain_state.declared.slot.SlotId.{SlotId}
use Rattle.law_lesson.specs.plain_state.Lists.{times}
use Rattle.law_lesson.specs.plain_state.References.{strong_refs}
use Rattle.law_lesson.specs.plain_state.State.{Plain}
use Rattle.tally_sums.specs.cdrc_text.declared.row.Row.{Row}
use Rattle.domain_audit.specs.acquire_retire.Calls.{IsOf}
use Rattle.domain_audit.specs.acquire_retire.Domains.{DomainState}
use Rattle.domain_audit.specs.acquire_retire.Seats.{SeatState}
use Rattle.lane_domain.specs.words_protocol.declared.law.WordsLaw.{WordsLaw}
use Rattle.domain_audit.specs.control_word.Resting.{IsSpent}
use Rattle.words_rest.specs.words_law.Views.{View}
use Rattle.words_rest.specs.Kept.{TellsWord}
use Rattle.lane_reports.specs.declared.records.WordRecord.{WordRecord}
use Rattle.lane_reports.specs.declared.refusal.RowsError.{RowsError}
use Rattle.lane_reports.specs.declared.refusal.RowsError.TheVariants as refused
use Rattle.lane_reports.specs.Kept.{lives_in}
use Rattle.tally_sums.specs.Sums.{Tallies, counted_in}

-- the words of some rows, and of some records
abbrev pub words_of : List Row → List (List ℕ)
words_of rows = map (λ (r : Row). r.word.now) rows

abbrev pub words_in : List WordRecord → List (List ℕ)
words_in records = map (λ (r : WordRecord). r.word.now) records

-- the slots of some records
abbrev pub slots_in : List WordRecord → List SlotId
slots_in records = map (λ (r : WordRecord). r.slot) records

-- the words of some records, with their numbers
abbrev pub sums_in : List WordRecord → List (List ℕ × ℕ)
sums_in records = map (λ (r : WordRecord). (r.word.now, r.occurrences)) records

-- each word that was counted has 1 to 4,096 bytes, and was counted fewer than 2^63 times
abbrev pub AreWords : Tallies → Type 0
AreWords tallies =
    (w : List ℕ) → 0 < counted_in tallies w
    → (1 ≤ length w) × (length w ≤ 4096) × (counted_in tallies w < 2 ^ 63)

-- the record is in one of these slots, and the seat's view tells its word in the life in which it has that slot
pub record IsRecordOf (kept : List SlotId) (seat : SeatState View) (r : WordRecord) : Type 0 where
  pub held : 0 < times r.slot kept
  pub tells : TellsWord seat.view.client.1 r.word.now r.slot (lives_in seat r.slot)

abbrev pub IsOwnedBy : SeatState View → WordRecord → Type 0
IsOwnedBy seat r = 0 < times r.slot seat.view.core.owned

-- the row has the record's word and number, and says how many strong references the record has
pub record IsRowOf (p : Plain) (r : WordRecord) (row : Row) : Type 0 where
  pub word : row.word ≡ r.word
  pub occurrences : row.occurrences ≡ r.occurrences
  pub holders : row.holders ≡ strong_refs p r.slot

-- one row for each record, in order
abbrev pub AreRowsOf : Plain → List WordRecord → List Row → Type 0
AreRowsOf p [] [] = Unit {0}
AreRowsOf p [] (row ∷ rows) = ⊥
AreRowsOf p (r ∷ records) [] = ⊥
AreRowsOf p (r ∷ records) (row ∷ rows) = IsRowOf p r row × AreRowsOf p records rows

-- why there are no rows: no add is left; or there was no memory
abbrev pub IsWhyNoRows : RowsError → SeatState View → Type 0
IsWhyNoRows refused.Spent seat = IsSpent seat.view.core
IsWhyNoRows refused.OutOfMemory seat = Unit {0}

-- why there is no report: the same, and the seat is the domain's still, and its quota what it was
abbrev pub IsWhyNoReport : DomainState WordsLaw → RowsError → SeatState View → SeatState View
    → Type 0
IsWhyNoReport d refused.Spent old new =
    IsSpent new.view.core × IsOf d new × (new.view.core.quota ≡ old.view.core.quota)
IsWhyNoReport d refused.OutOfMemory old new = Unit {0}
