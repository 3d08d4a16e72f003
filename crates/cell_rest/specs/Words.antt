-- The words of slots, as a view tells them.
use Rattle.std.specs.Prelude.{ℕ, List, [], ◌∷◌, map, if◌then◌else◌}
use Rattle.plain_audit.specs.plain_state.declared.slot.SlotId.{SlotId}
use Rattle.plain_audit.specs.plain_state.Lists.{is_slot}
use Rattle.cell_law.specs.directory_law.declared.view.Rope.{Rope}
use Rattle.cell_law.specs.directory_law.Bytes.{text_bytes}
use Rattle.cell_law.specs.directory_law.Payloads.{Text}
use Rattle.cell_law.specs.declared.view.View.{View}
use Rattle.cell_rest.specs.Kept.{told_by}

-- the text of the first of these records that is of slot s
unfoldable pub text_for : List Rope → SlotId → Text
text_for [] s = []
text_for (e ∷ es) s = if is_slot s e.slot then e.text else text_for es s

-- the text that the view tells of a slot, the bytes of that text, and those of several
abbrev pub text_at : View → SlotId → Text
text_at v s = text_for (told_by v) s

abbrev pub word_at : View → SlotId → List ℕ
word_at v s = text_bytes (text_at v s)

abbrev pub words_at : View → List SlotId → List (List ℕ)
words_at v heads = map (word_at v) heads
