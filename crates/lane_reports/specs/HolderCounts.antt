-- How the holders that a report tells were counted.
use Rattle.std.specs.Prelude.{ℕ, ◌≡◌, ◌++◌, false, List, [], ◌∷◌}
use Rattle.law_lesson.specs.plain_state.declared.slot.SlotId.{SlotId}
use Rattle.tally_sums.specs.cdrc_text.declared.row.Row.{Row}
use Rattle.tally_sums.specs.cdrc_text.declared.row.Totals.{Totals}
use Rattle.tally_sums.specs.cdrc_text.Report.{report_of}
use Rattle.domain_audit.specs.core_events.declared.view.Move.{Move}
use Rattle.domain_audit.specs.acquire_retire.Seats.{SeatState}
use Rattle.domain_audit.specs.control_word.Calls.{counted_by}
use Rattle.words_rest.specs.directory_law.declared.view.View.{View as DirectoryView}
use Rattle.words_rest.specs.words_law.Views.{View}
use Rattle.words_rest.specs.Kept.{TellsWord}
use Rattle.words_rest.specs.Written.{HaveWords}
use Rattle.lane_domain.specs.lane_files.lane_work.declared.work.Work.{Work}
use Rattle.lane_domain.specs.Sizes.{texts_in}
use Rattle.lane_reports.specs.Trails.{leaves_in}

-- the moves that count the strong references to these slots, in order: each answers the holders of the next row
abbrev pub counts_of : List SlotId → List Row → List Move
counts_of [] rows = []
counts_of (s ∷ slots) [] = []
counts_of (s ∷ slots) (row ∷ rows) = counted_by s row.holders false ++ counts_of slots rows

-- the view tells the row's word of the slot, in one of its lives
abbrev pub TellsRow : DirectoryView → SlotId → Row → Type 0
TellsRow v s row = (life : ℕ) × TellsWord v row.word.now s life

-- the words of these rows it tells of these slots, in order
abbrev pub TellsRows : DirectoryView → List SlotId → List Row → Type 0
TellsRows v [] [] = Unit {0}
TellsRows v [] (row ∷ rows) = ⊥
TellsRows v (s ∷ slots) [] = ⊥
TellsRows v (s ∷ slots) (row ∷ rows) = TellsRow v s row × TellsRows v slots rows

-- The text has these rows, one for each word of the files. Each word has a slot, of which the seat's view tells it, and
-- the holders of its row are what the seat found as it counted the strong references to that slot. These counts stand
-- in its trail, in order, and after them no seat left.
pub record CountsHolders (work : Work) (seat : SeatState View) (text : List ℕ) : Type 0 where
  pub rows : List Row
  pub totals : Totals
  pub is : text ≡ report_of rows totals
  pub have : HaveWords (texts_in work) rows
  pub slots : List SlotId
  pub tells : TellsRows seat.view.client.1 slots rows
  pub before : List Move
  pub after : List Move
  pub trail : seat.view.core.trail ≡ before ++ (counts_of slots rows ++ after)
  pub last : leaves_in after ≡ 0
