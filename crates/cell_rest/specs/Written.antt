-- A row for each record that is left.
use Rattle.std.specs.Prelude.{ℕ, List}
use Rattle.plain_audit.specs.plain_state.declared.slot.SlotId.{SlotId}
use Rattle.plain_audit.specs.plain_state.State.{Plain}
use Rattle.record_counts.specs.cdrc_text.declared.row.Row.{Row}
use Rattle.record_counts.specs.cdrc_text.Fold.{File}
pub use Rattle.record_counts.specs.Written.{HaveWords, line_of, totals_found}
use Rattle.record_counts.specs.Written as written
use Rattle.cell_law.specs.declared.view.View.{View}
use Rattle.cell_rest.specs.Kept.{TellsWord}

-- One for each slot, in order: it has a word that the view tells of that slot, which is kept, as often as it occurs in
-- the files, and with as many holders as there are strong references to the slot.
abbrev pub AreRowsAt : List File → ℕ → Plain → List SlotId → View → List Row → List SlotId → Type 0
AreRowsAt files rounds p kept v rows slots =
    written.AreRowsAt (TellsWord v) files rounds p kept rows slots
