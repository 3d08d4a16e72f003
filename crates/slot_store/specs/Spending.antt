-- How many steps a seat has made, and how many collects and steps a settle takes.
use Rattle.std.specs.Prelude.{ℕ, ◌+◌, ◌*◌, length}
use Rattle.claim_law.specs.core_events.Words.{announcements}
use Rattle.retiring_stores.specs.acquire_retire.Domains.{DomainState}
use Rattle.retiring_stores.specs.acquire_retire.Seats.{SeatState}
use Rattle.slot_store.specs.Settling.{objects_known}

-- the steps that a seat has made
abbrev pub steps_made : {V : Type 0} → SeatState V → ℕ
steps_made seat = length seat.view.core.trail

-- the entries that it has retired
abbrev pub entries_of : {V : Type 0} → SeatState V → ℕ
entries_of seat = length seat.view.core.retired

-- the fields of an object
abbrev pub fields_of_slot : ℕ
fields_of_slot = 3

-- a payment is a drop, and the finish and the take that may follow
abbrev pub steps_of_payment : ℕ
steps_of_payment = 3

-- a reap leaves each field null, reads each word of the payload, destroys the slot and gives it back
abbrev pub steps_of_reap : ℕ
steps_of_reap = 21

-- it collects where no slot is ripe, and where a field that it leaves null makes that due
abbrev pub collects_of_reap : ℕ
collects_of_reap = 4

-- how many steps a reap takes at most: a collect reads each announcement word, and the entries that are
-- paid for are those that were retired, and those of the fields
abbrev pub reap_most : {P V : Type 0} → DomainState P → SeatState V → ℕ
reap_most d seat =
    collects_of_reap * announcements d.shape
    + steps_of_payment * (entries_of seat + fields_of_slot) + steps_of_reap

-- the entries that a settle may pay for: those that are retired, and those of the fields of each object
abbrev pub entries_most : {P V : Type 0} → DomainState P → SeatState V → ℕ
entries_most d seat = entries_of seat + fields_of_slot * objects_known d seat

-- how many collects it takes at most: one for each of these entries, one for each object, and one
-- more
abbrev pub collects_most : {P V : Type 0} → DomainState P → SeatState V → ℕ
collects_most d seat = entries_most d seat + objects_known d seat + 1

-- and how many steps: those of the collects, of the payments and of the reaps
abbrev pub settle_most : {P V : Type 0} → DomainState P → SeatState V → ℕ
settle_most d seat =
    collects_most d seat * announcements d.shape + steps_of_payment * entries_most d seat
    + steps_of_reap * objects_known d seat
