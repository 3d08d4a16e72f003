-- The words of a domain, in the order of its table: the base word, four announcement words of
-- each seat, the strong cells, the weak cells, 21 words of each slot, the bits of the free slots, 64 in
-- a word, and the number of the tickets drawn.
use Rattle.announce_slots.specs.counter_word.Words.{ZERO}
use Rattle.std.specs.Prelude.{ℕ, zero, suc, ◌+◌, ◌-◌, ◌*◌, ◌/◌, ◌%◌, ◌^◌, min, ◌==◌, List, [], ◌∷◌, ◌++◌, replicate, Option, Some, None, if◌then◌else◌}
use Rattle.std.specs.Int.{bit_at}
use Rattle.announce_slots.specs.plain_state.Limits.{words_of_seat, words_of_slot}
use Rattle.announce_slots.specs.plain_state.declared.act.EventPlace.{EventPlace}
use Rattle.announce_slots.specs.plain_state.declared.act.EventPlace.TheVariants.{Cell, Field, WeakCell, WeakField}
use Rattle.announce_slots.specs.plain_state.declared.slot.SlotId.{SlotId}
use Rattle.core_events.specs.declared.shape.Shape.{Shape}

-- the number of all announcement words
abbrev pub announcements : Shape → ℕ
announcements z = words_of_seat * z.seats

-- announcement word j of seat n
abbrev pub note_at : ℕ → ℕ → ℕ
note_at n j = 1 + words_of_seat * n + j

abbrev pub cell_at : Shape → ℕ → ℕ
cell_at z i = 1 + words_of_seat * z.seats + i

abbrev pub weak_cell_at : Shape → ℕ → ℕ
weak_cell_at z i = 1 + words_of_seat * z.seats + z.cells + i

-- the first word of a slot
abbrev pub slot_at : Shape → ℕ → ℕ
slot_at z x = 1 + words_of_seat * z.seats + z.cells + z.weak_cells + words_of_slot * x

abbrev pub strong_at : Shape → SlotId → ℕ
strong_at z s = slot_at z s.0

abbrev pub weak_at : Shape → SlotId → ℕ
weak_at z s = slot_at z s.0 + 1

abbrev pub field_at : Shape → SlotId → ℕ → ℕ
field_at z s i = slot_at z s.0 + 2 + i

abbrev pub weak_field_at : Shape → SlotId → ℕ
weak_field_at z s = slot_at z s.0 + 4

abbrev pub payload_at : Shape → SlotId → ℕ → ℕ
payload_at z s i = slot_at z s.0 + 5 + i

-- how many words the bits of all slots take
abbrev pub bitmaps : Shape → ℕ
bitmaps z = (z.slots + 63) / 64

-- the word that has the bit of a slot
abbrev pub bits_at : Shape → SlotId → ℕ
bits_at z s = slot_at z z.slots + s.0 / 64

-- the bit of a slot in such a word, alone, and as it stands in a word: 1 where it is set
abbrev pub bit_alone : SlotId → ℕ
bit_alone s = 2 ^ (s.0 % 64)

abbrev pub bit_in : SlotId → ℕ → ℕ
bit_in s w = bit_at w (s.0 % 64)

abbrev pub ticket_at : Shape → ℕ
ticket_at z = slot_at z z.slots + bitmaps z

-- how many words there are
abbrev pub word_count : Shape → ℕ
word_count z = ticket_at z + 1

abbrev pub place_at : Shape → EventPlace → ℕ
place_at z (Cell i) = cell_at z i
place_at z (Field s i) = field_at z s i
place_at z (WeakCell i) = weak_cell_at z i
place_at z (WeakField s) = weak_field_at z s

-- the slot that the word of a place holds
abbrev pub slot_in : ℕ → Option SlotId
slot_in w = if w == 0 then None else Some (record { 0 = w - 1 })

-- f of the n numbers from i on
abbrev pub each_from : {A : Type 0} → ℕ → ℕ → (ℕ → A) → List A
each_from i zero f = []
each_from i (suc n) f = f i ∷ each_from (i + 1) n f

-- the words of a slot that nobody has claimed
abbrev pub free_words : List ℕ
free_words = ZERO ∷ replicate 20 0

abbrev pub all_free : ℕ → List ℕ
all_free zero = []
all_free (suc n) = free_words ++ all_free n

-- the bits of all slots from 64 * i on, as far as they go into one word
abbrev pub full_bits : Shape → ℕ → ℕ
full_bits z i = 2 ^ (min 64 (z.slots - 64 * i)) - 1

-- nothing has happened
abbrev pub first_words : Shape → List ℕ
first_words z =
    replicate (slot_at z 0) 0 ++ all_free z.slots ++ each_from 0 (bitmaps z) (full_bits z) ++ 0 ∷ []
