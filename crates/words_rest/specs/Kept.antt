-- What a view of the directory tells of references that are kept.
use Rattle.std.specs.Prelude.{ℕ, ◌≡◌, ◌<◌, All, List, [], slice_index_or}
use Rattle.plain_audit.specs.plain_state.declared.slot.SlotId.{SlotId}
use Rattle.plain_audit.specs.plain_state.Lists.{times}
use Rattle.plain_audit.specs.plain_state.State.{Plain, seat_at, slot_at}
use Rattle.plain_audit.specs.plain_protocol.Laws.{Meets}
use Rattle.record_counts.specs.Told as told
use Rattle.words_law.specs.queue_law.Chain.{Ends}
use Rattle.words_law.specs.directory_law.declared.view.View.{View as DirectoryView}
use Rattle.words_law.specs.directory_law.Bytes.{AreBytes, IsTextOf}
use Rattle.words_law.specs.directory_law.Cells.{Area}
use Rattle.words_law.specs.directory_law.Payloads.{Text}
use Rattle.words_law.specs.Known.{KnowsText}
use Rattle.words_law.specs.Law.{WordsLaw}
use Rattle.words_law.specs.Texts.{AllPieces}
use Rattle.words_law.specs.Views.{View, gone}

-- the view tells the text of these bytes for a slot, in a life
abbrev pub TellsWord : DirectoryView → List ℕ → SlotId → ℕ → Type 0
TellsWord v w s life =
    (text : Text) × IsTextOf w text
    × KnowsText v (record { slot = s.0; life = life; payload = [] }) text

-- it tells these words of these slots, in order
abbrev pub TellsEach : (SlotId → ℕ) → List (List ℕ) → List SlotId → DirectoryView → Type 0
TellsEach lives words slots v = told.TellsEach (λ w s. TellsWord v w s (lives s)) words slots

-- Each of these words has a slot, of which the view tells it in the life that is given for that slot. The references
-- that are kept are to these slots, to each once.
abbrev pub TellsRecords : (SlotId → ℕ) → List (List ℕ) → List SlotId → DirectoryView → Type 0
TellsRecords lives words kept v = told.TellsRecords (λ w s. TellsWord v w s (lives s)) words kept

-- the same of several files, whose references are kept one after the other's
abbrev pub TellsFiles : (SlotId → ℕ) → List (List (List ℕ)) → List SlotId → DirectoryView → Type 0
TellsFiles lives files kept v = told.TellsFiles (λ w s. TellsWord v w s (lives s)) files kept

-- the law holds, and seat 0 owns just these references, of which its view tells the words of the files, in the lives
-- that the slots are in
pub record KeepsRecordsOf (u : Ends) (z : Area) (p : Plain) (views : List View)
    (lives : SlotId → ℕ) (files : List (List (List ℕ))) (kept : List SlotId) : Type 0 where
  pub meets : Meets (WordsLaw u z) p views
  pub fit : AllPieces p
  pub owned : (s : SlotId) → times s (seat_at p 0).owned ≡ times s kept
  pub life : (s : SlotId) → 0 < times s kept → lives s ≡ (slot_at p s).life
  pub tells : TellsFiles lives files kept (slice_index_or views 0 gone).1
  pub bytes : All (λ (words : List (List ℕ)). All AreBytes words) files
