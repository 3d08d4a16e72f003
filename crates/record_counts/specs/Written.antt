-- A row for each record that is left, and the lines of both audits.
use Rattle.std.specs.Prelude.{◌≡◌, ◌<◌, ◌↔◌, ℕ, List, [], ◌∷◌, length, map}
use Rattle.std.specs.List.{Contains, sum_by}
use Rattle.cdrc_text.specs.declared.row.AuditLine.{AuditLine}
use Rattle.cdrc_text.specs.declared.row.Row.{Row}
use Rattle.cdrc_text.specs.declared.row.Totals.{Totals}
use Rattle.cdrc_text.specs.Fold.{File, IsInByteOrder, holders_in, occurrences_in}
use Rattle.cdrc_text.specs.Text.{word_of}
use Rattle.plain_audit.specs.heap_audit.declared.finding.Audit.{Audit}
use Rattle.plain_audit.specs.plain_state.declared.slot.SlotId.{SlotId}
use Rattle.plain_audit.specs.plain_state.Lists.{times}
use Rattle.plain_audit.specs.plain_state.References.{strong_refs}
use Rattle.plain_audit.specs.plain_state.State.{Plain}

-- the numbers of an audit
abbrev pub line_of : Audit → AuditLine
line_of found = record {
  live = found.live;
  deferred = found.deferred;
  cyclic = found.cyclic;
  bytes = found.bytes;
}

-- `Told w s` says that the word with these bytes is told of slot s
module _ (Told : List ℕ → SlotId → Type 0) (files : List File) (rounds : ℕ) (p : Plain)
    (kept : List SlotId) where
  -- The row has a word that is told of the kept slot s, as often as it occurs in the files, and with as many holders as
  -- there are strong references to s.
  pub record IsRowAt (row : Row) (s : SlotId) : Type 0 where
    pub is_kept : 0 < times s kept
    pub tells : Told row.word.now s
    pub occurrences : row.occurrences ≡ occurrences_in row.word.now rounds files
    pub holders : row.holders ≡ strong_refs p s

  -- one for each slot, in order
  abbrev pub AreRowsAt : List Row → List SlotId → Type 0
  AreRowsAt [] [] = Unit {0}
  AreRowsAt [] (s ∷ ss) = ⊥
  AreRowsAt (row ∷ rows) [] = ⊥
  AreRowsAt (row ∷ rows) (s ∷ ss) = IsRowAt row s × AreRowsAt rows ss

-- the words of the rows are those of the files, each once and in byte order
pub record HaveWords (files : List File) (rows : List Row) : Type 0 where
  pub in_order : IsInByteOrder (map word_of rows)
  pub held : (w : List ℕ) → Contains (map word_of rows) w ↔ (0 < holders_in w files)

-- the numbers of the files and their pieces, and both audits
abbrev pub totals_found : List File → Audit → Audit → Totals
totals_found files held freed = record {
  files = length files;
  pieces = sum_by (λ (f : File). length f) files;
  held = line_of held;
  freed = line_of freed;
}
