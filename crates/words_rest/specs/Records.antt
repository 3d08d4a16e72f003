-- The words of the records that seat 0 owns.
use Rattle.std.specs.Prelude.{ℕ, List, map}
use Rattle.plain_audit.specs.plain_state.declared.slot.SlotId.{SlotId}
use Rattle.plain_audit.specs.plain_state.State.{Plain, slot_at}
pub use Rattle.record_counts.specs.Records.{AreOwned, FindsRecords}
use Rattle.words_law.specs.directory_law.Bytes.{text_bytes}
use Rattle.words_law.specs.Texts.{all_kept, text_in}
use Rattle.words_law.specs.Views.{View, directories}

-- the word of a slot: the bytes of the text that is kept for it, in the life that it is in
abbrev pub word_at : Plain → List View → SlotId → List ℕ
word_at p views s = text_bytes (text_in (all_kept (directories views)) s (slot_at p s).life)

abbrev pub words_at : Plain → List View → List SlotId → List (List ℕ)
words_at p views heads = map (word_at p views) heads
