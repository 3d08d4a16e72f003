-- What a view of the records in cells tells of references that are kept.
use Rattle.std.specs.Prelude.{ℕ, ◌≡◌, ◌<◌, ◌++◌, All, List, []}
use Rattle.plain_audit.specs.plain_state.declared.slot.SlotId.{SlotId}
use Rattle.plain_audit.specs.plain_state.Fits.{AllFit}
use Rattle.plain_audit.specs.plain_state.Lists.{times}
use Rattle.plain_audit.specs.plain_state.State.{Plain, seat_at, slot_at}
use Rattle.plain_audit.specs.plain_protocol.Laws.{Meets}
use Rattle.record_counts.specs.Told as told
use Rattle.cell_law.specs.directory_law.declared.view.Rope.{Rope}
use Rattle.cell_law.specs.directory_law.Bytes.{AreBytes, IsPiece, IsTextOf}
use Rattle.cell_law.specs.directory_law.Cells.{Area}
use Rattle.cell_law.specs.directory_law.Payloads.{Text}
use Rattle.cell_law.specs.directory_law.Views.{In, rope}
use Rattle.cell_law.specs.Law.{CellLaw}
use Rattle.cell_law.specs.declared.view.View.{View}
use Rattle.cell_law.specs.Views.{bound_in, view_at}

-- the records of which a view tells: those that its seat found, and the heads that it lists as bound
abbrev pub told_by : View → List Rope
told_by v = v.found ++ bound_in v

-- the view tells that s is the record of the word with these bytes, in some life
abbrev pub TellsWord : View → List ℕ → SlotId → Type 0
TellsWord v w s =
    (life : ℕ) × (text : Text) × IsTextOf w text × In (rope s life text) (told_by v)

-- Each word of these files it tells of a slot: of each file the references that are kept are one to each slot of which
-- it tells a word of that file, and those of the files are kept one after the other's.
abbrev pub TellsFiles : List (List (List ℕ)) → List SlotId → View → Type 0
TellsFiles files kept v = told.TellsFiles (TellsWord v) files kept

-- what it tells of s, it tells of the life that s is in
abbrev pub TellsOfNow : Plain → View → SlotId → Type 0
TellsOfNow p v s =
    (life : ℕ) (text : Text) → In (rope s life text) (told_by v) → (slot_at p s).life ≡ life

-- The law holds, and of all seats seat 0 alone owns anything: just these references, of which its view tells the words
-- of the files, in the lives that the slots are in.
pub record KeepsRecordsOf (z : Area) (p : Plain) (views : List View)
    (files : List (List (List ℕ))) (kept : List SlotId) : Type 0 where
  pub meets : Meets (CellLaw z) p views
  pub fit : AllFit IsPiece p
  pub owned : (s : SlotId) → times s (seat_at p 0).owned ≡ times s kept
  pub others : (n : ℕ) → 0 < n → (seat_at p n).owned ≡ []
  pub now : (s : SlotId) → 0 < times s kept → TellsOfNow p (view_at views 0) s
  pub tells : TellsFiles files kept (view_at views 0)
  pub bytes : All (λ (words : List (List ℕ)). All AreBytes words) files
