-- A row for each record that is left, and the lines of both audits.
use Rattle.std.specs.Prelude.{ℕ, List}
use Rattle.words_law.specs.cdrc_text.declared.row.Row.{Row}
use Rattle.words_law.specs.cdrc_text.Fold.{File}
use Rattle.words_law.specs.directory_law.declared.view.View.{View as DirectoryView}
use Rattle.plain_audit.specs.plain_state.declared.slot.SlotId.{SlotId}
use Rattle.plain_audit.specs.plain_state.State.{Plain}
pub use Rattle.record_counts.specs.Written.{HaveWords, line_of, totals_found}
use Rattle.record_counts.specs.Written as written
use Rattle.words_rest.specs.Kept.{TellsWord}

module _ (files : List File) (rounds : ℕ) (p : Plain) (lives : SlotId → ℕ) (kept : List SlotId)
    (v : DirectoryView) where
  -- The row has a word that the view tells of the kept slot, as often as it occurs in the files, and with as many
  -- holders as there are strong references to the slot.
  abbrev pub IsRowAt : Row → SlotId → Type 0
  IsRowAt row s = written.IsRowAt (λ w t. TellsWord v w t (lives t)) files rounds p kept row s

  -- one for each slot, in order
  abbrev pub AreRowsAt : List Row → List SlotId → Type 0
  AreRowsAt rows slots =
      written.AreRowsAt (λ w t. TellsWord v w t (lives t)) files rounds p kept rows slots
