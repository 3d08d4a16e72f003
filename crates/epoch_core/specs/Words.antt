-- The words of a domain under epochs, in the order of its table: the base word, the epoch, a region word for each
-- seat, the cells, 19 words of each slot. Region words stand eight apart, so that no two of them share a cache line;
-- the words between them stay 0.
use Rattle.std.specs.Prelude.{ℕ, zero, suc, ◌+◌, ◌*◌, ◌^◌, List, [], ◌∷◌, ◌++◌, replicate}
use Rattle.core_law.specs.plain_state.declared.act.EventPlace.{EventPlace}
use Rattle.core_law.specs.plain_state.declared.act.EventPlace.TheVariants.{Cell, Field, WeakCell, WeakField}
use Rattle.core_law.specs.plain_state.declared.slot.SlotId.{SlotId}
use Rattle.epoch_core.specs.declared.shape.EpochShape.{EpochShape}

-- the count word of a free slot
abbrev pub free_word : ℕ
free_word = 2 ^ 63

-- no epoch is later
abbrev pub last_epoch : ℕ
last_epoch = 2 ^ 62

abbrev pub epoch_at : ℕ
epoch_at = 1

-- the region word of seat n
abbrev pub region_at : ℕ → ℕ
region_at n = 8 + 8 * n

abbrev pub cell_at : EpochShape → ℕ → ℕ
cell_at z i = 8 + 8 * z.seats + i

-- the first word of a slot
abbrev pub slot_at : EpochShape → ℕ → ℕ
slot_at z x = 8 + 8 * z.seats + z.cells + 19 * x

abbrev pub count_at : EpochShape → SlotId → ℕ
count_at z s = slot_at z s.0

abbrev pub field_at : EpochShape → SlotId → ℕ → ℕ
field_at z s i = slot_at z s.0 + 1 + i

abbrev pub payload_at : EpochShape → SlotId → ℕ → ℕ
payload_at z s i = slot_at z s.0 + 3 + i

-- how many words there are
abbrev pub word_count : EpochShape → ℕ
word_count z = slot_at z z.slots

-- the word of a place. There are no weak places
abbrev pub place_at : EpochShape → EventPlace → ℕ
place_at z (Cell i) = cell_at z i
place_at z (Field s i) = field_at z s i
place_at z (WeakCell i) = 0
place_at z (WeakField s) = 0

-- the words of slots that nobody has claimed
abbrev pub free_words : List ℕ
free_words = free_word ∷ replicate 18 0

abbrev pub all_free : ℕ → List ℕ
all_free zero = []
all_free (suc n) = free_words ++ all_free n

-- nothing has happened
abbrev pub first_words : EpochShape → List ℕ
first_words z = replicate (slot_at z 0) 0 ++ all_free z.slots
