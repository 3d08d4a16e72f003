-- A seat that may make any of the calls that are timed.
use Rattle.slot_store.specs.core_events.Steps.{HasRoom}
use Rattle.slot_store.specs.acquire_retire.Domains.{DomainState}
use Rattle.slot_store.specs.acquire_retire.Seats.{SeatState}
use Rattle.slot_store.specs.control_word.Resting.{IsAtRest}

-- it is in no call, and has room for what a store retires
abbrev pub IsFree : {P V : Type 0} → DomainState P → SeatState V → Type 0
IsFree d s = IsAtRest d s × HasRoom s.view.core
