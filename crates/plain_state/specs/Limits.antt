-- How much a heap or a domain may have, and of how many words its parts are.
use Rattle.std.specs.Prelude.{ℕ}

-- the most slots, 2^22, so that a slot and a kind fit into one word with room to spare
abbrev pub most_slots : ℕ
most_slots = 4194304

-- the most strong cells, and the most weak ones
abbrev pub most_cells : ℕ
most_cells = 65536

abbrev pub most_weak_cells : ℕ
most_weak_cells = 4194304

-- the most seats of a domain, and the most entries that a seat keeps before it scans
abbrev pub most_seats : ℕ
most_seats = 32

abbrev pub most_batch : ℕ
most_batch = 1024

-- the words of an object's payload
abbrev pub words_of_payload : ℕ
words_of_payload = 16

-- the announcement words of a seat
abbrev pub words_of_seat : ℕ
words_of_seat = 4

-- the words of a slot: its strong and its weak counter, its payload, its two strong fields and its weak one
abbrev pub words_of_slot : ℕ
words_of_slot = 21
