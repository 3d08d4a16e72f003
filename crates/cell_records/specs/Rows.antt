-- The row of a record, by the image of a heap.
use Rattle.std.specs.Prelude.{◌≡◌, ◌<◌, List, [], ◌∷◌, length}
use Rattle.cell_records.specs.declared.records.WordRecord.{WordRecord}
use Rattle.cell_rest.specs.plain_audit.plain_state.Images.{slot_image}
use Rattle.cell_rest.specs.plain_audit.plain_state.declared.image.Heap.{Heap}
use Rattle.tally_sums.specs.cdrc_text.declared.row.Row.{Row}

-- the image has the record's slot
abbrev pub IsIn : Heap → WordRecord → Type 0
IsIn image r = r.slot.0 < length image.slots.items

-- the row has the record's word and number, and the references that the image counts to its slot
pub record IsRowOf (image : Heap) (r : WordRecord) (row : Row) : Type 0 where
  pub word : row.word ≡ r.word
  pub occurrences : row.occurrences ≡ r.occurrences
  pub holders : row.holders ≡ (slot_image image.slots.items r.slot).strong

-- one row for each record, in order
abbrev pub AreRowsOf : Heap → List WordRecord → List Row → Type 0
AreRowsOf image [] [] = Unit {0}
AreRowsOf image [] (row ∷ rows) = ⊥
AreRowsOf image (r ∷ records) [] = ⊥
AreRowsOf image (r ∷ records) (row ∷ rows) = IsRowOf image r row × AreRowsOf image records rows
