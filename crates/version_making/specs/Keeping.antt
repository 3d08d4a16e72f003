-- What a call leaves of its seat, and how the seat's view of the map grows.
use Rattle.std.specs.Prelude.{ℕ, ◌≡◌, ◌+◌, ◌<◌, ◌≤◌, true, List, [], ◌++◌, Option, Some, None, Result, Ok, Err}
use Rattle.map_law.specs.plain_state.declared.slot.SlotId.{SlotId}
use Rattle.map_law.specs.plain_state.Lists.{times}
use Rattle.map_law.specs.declared.view.Led.{Led}
use Rattle.map_law.specs.declared.view.Note.{Note}
use Rattle.map_law.specs.declared.view.View.{View}
use Rattle.map_law.specs.Views.{In}
use Rattle.slot_store.specs.core_events.declared.view.CoreView.{CoreView}
use Rattle.slot_store.specs.core_events.declared.view.Move.{Move}
use Rattle.slot_store.specs.core_events.Steps.{HasRoom}
use Rattle.slot_store.specs.core_events.Counts.{one}
use Rattle.slot_store.specs.control_word.Resting.{IsAtRest}
use Rattle.slot_store.specs.counted_handles.Handles.{Handle}
use Rattle.slot_store.specs.domain_rule.Views.{object_in}
use Rattle.slot_store.specs.acquire_retire.Collecting.{rest_of}
use Rattle.slot_store.specs.acquire_retire.Domains.{DomainState}
use Rattle.slot_store.specs.acquire_retire.Seats.{SeatState}

-- what a seat has beside the references that it owns, its batch, its dying and ripe slots, and its trail; and beside
-- how many objects it made and how many adds it used
abbrev pub aside : CoreView → CoreView
aside v = record (rest_of v) { owned = []; made = []; adds = 0; makes = 0 }

-- the trail goes on by some moves
abbrev pub GoesOn : CoreView → CoreView → Type 0
GoesOn v w = (ms : List Move) × (w.trail ≡ v.trail ++ ms)

-- how many of some references are to x: of none, of one, of one that may be null, of what a call answers
abbrev pub none : SlotId → ℕ
none x = 0

abbrev pub of_slot : SlotId → SlotId → ℕ
of_slot s x = one x s

abbrev pub of_handle : Option Handle → SlotId → ℕ
of_handle None x = 0
of_handle (Some handle) x = one x handle.slot

abbrev pub of_both : Option Handle → Option Handle → SlotId → ℕ
of_both left right x = of_handle left x + of_handle right x

abbrev pub of_answer : {E : Type 0} → Result Handle E → SlotId → ℕ
of_answer (Ok handle) x = one x handle.slot
of_answer (Err error) x = 0

-- A view has learnt more: what fields hold, and which nodes nobody changes. It has the entries that it had.
pub record Grows (v w : View) : Type 0 where
  pub number : w.number ≡ v.number
  pub here : w.here ≡ v.here
  pub entries : w.entries ≡ v.entries
  pub cleared : w.cleared ≡ v.cleared
  pub solid : (e : Note) → In e v.solid → In e w.solid
  pub led : (e : Led) → In e v.led → In e w.led

-- The seat has given some references, and gained others. It has used at most so many makes and adds more. What it has
-- beside is as it was, and so is what it knows of an object to which it kept a reference all along.
pub record Keeps (makes adds : ℕ) (given gained : SlotId → ℕ) (old new : SeatState View) : Type 0
  where
    pub owns :
        (x : SlotId)
        → times x new.view.core.owned + given x ≡ times x old.view.core.owned + gained x
    pub makes_used :
        (old.view.core.makes ≤ new.view.core.makes)
        × (new.view.core.makes ≤ old.view.core.makes + makes)
    pub adds_used :
        (old.view.core.adds ≤ new.view.core.adds)
        × (new.view.core.adds ≤ old.view.core.adds + adds)
    pub same : aside new.view.core ≡ aside old.view.core
    pub goes : GoesOn old.view.core new.view.core
    pub knows :
        (x : SlotId) → given x < times x old.view.core.owned
        → object_in new.view x ≡ object_in old.view x
    pub grows : Grows old.view.client new.view.client

-- the seat owns all references of two handles
abbrev pub OwnsBoth : Option Handle → Option Handle → SeatState View → Type 0
OwnsBoth left right seat = (x : SlotId) → of_both left right x ≤ times x seat.view.core.owned

-- the seat is in no call, has room for what a store retires, and takes part in the map
pub record IsReadyFor {P : Type 0} (d : DomainState P) (seat : SeatState View) : Type 0 where
  pub rest : IsAtRest d seat
  pub room : HasRoom seat.view.core
  pub here : seat.view.client.here ≡ true
