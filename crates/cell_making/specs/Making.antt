-- What a make of a record leaves.
use Rattle.std.specs.Prelude.{ℕ, ◌≡◌, ◌+◌, ◌<◌, ◌≤◌, length, List, [], ◌∷◌, ◌++◌, Result, Ok, Err}
use Rattle.control_word.specs.counted_handles.Handles.{Handle}
use Rattle.cell_calls.specs.cell_law.plain_state.declared.slot.SlotId.{SlotId}
use Rattle.cell_calls.specs.cell_law.plain_state.Lists.{times}
use Rattle.cell_calls.specs.cell_law.directory_law.Bytes.{IsPiece}
use Rattle.cell_calls.specs.cell_law.directory_law.declared.view.Rope.{Rope}
use Rattle.cell_calls.specs.cell_law.directory_law.Payloads.{Text, IsPart}
use Rattle.cell_calls.specs.cell_law.directory_law.Views.{In, rope}
use Rattle.cell_calls.specs.cell_law.declared.view.View.{View}
use Rattle.cell_calls.specs.cell_protocol.declared.law.CellLaw.{CellLaw}
use Rattle.cell_calls.specs.Keeping.{GoesOn, GoesUnclaimed, NotesOnly}
use Rattle.epoch_refs.specs.epoch_core.core_events.Views.{without}
use Rattle.epoch_refs.specs.epoch_rule.Views.{object_in}
use Rattle.epoch_refs.specs.epoch_domain.Domains.{DomainState}
use Rattle.epoch_refs.specs.epoch_domain.Seats.{SeatState}
use Rattle.epoch_refs.specs.Calls.{IsSpent}
use Rattle.epoch_refs.specs.Making.{HasNoMake, SlotsFitMakes}
use Rattle.epoch_refs.specs.Searching.{IsFull}
use Rattle.cell_making.specs.declared.refusals.RecordError.{RecordError}
use Rattle.cell_making.specs.declared.refusals.RecordError.TheVariants as refused

-- at most n events
abbrev pub IsFew : {V : Type 0} → ℕ → SeatState V → SeatState V → Type 0
IsFew n old new = length new.view.core.trail ≤ length old.view.core.trail + n

-- NOTES
-- s as a slot with this text, in the life in which the seat knows it
abbrev pub candidate_in : {V : Type 0} → SlotId → Text → SeatState V → Rope
candidate_in s text seat = rope s (object_in seat.view s).life text

-- these notes are all among those
abbrev pub AreAmong : List Rope → List Rope → Type 0
AreAmong es fs = (e : Rope) → In e es → In e fs

-- the view has noted e last, and besides no other notes than these; nothing else of it has changed
pub record NotesLast (e : Rope) (among : List Rope) (v w : View) : Type 0 where
  pub others : List Rope
  pub noted : w ≡ record v { noted = e ∷ others }
  pub are_among : AreAmong others among

-- some text of s was noted last
abbrev pub HasText : SlotId → SeatState View → Type 0
HasText s seat =
    (text : Text) × (others : List Rope)
    × (seat.view.client.noted ≡ candidate_in s text seat ∷ others)

-- WHAT IS MADE
-- with the slot of the handle that a call answers
abbrev pub owned_with : {E : Type 0} → Result Handle E → List SlotId → List SlotId
owned_with (Ok handle) xs = xs ++ handle.slot ∷ []
owned_with (Err error) xs = xs

-- The seat owns s, which it has made, with what stands behind it, in n makes, each of which used an add. It is noted
-- last, with this text.
pub record HasMade (text : Text) (n : ℕ) (s : SlotId) (old new : SeatState View) : Type 0 where
  pub owned : 0 < times s new.view.core.owned
  pub noted :
      NotesLast (candidate_in s text new) old.view.client.noted old.view.client new.view.client
  pub makes : new.view.core.makes ≡ old.view.core.makes + n
  pub adds : new.view.core.adds ≡ old.view.core.adds + n

-- It has made one slot of this payload, noted before all that was noted.
pub record HasMadeOne (payload : List ℕ) (s : SlotId) (old new : SeatState View) : Type 0 where
  pub owned : 0 < times s new.view.core.owned
  pub payload_is : (object_in new.view s).payload ≡ payload
  pub noted :
      new.view.client
      ≡ record old.view.client {
        noted = candidate_in s (payload ∷ []) new ∷ old.view.client.noted;
      }
  pub makes : new.view.core.makes ≡ old.view.core.makes + 1
  pub adds : new.view.core.adds ≡ old.view.core.adds + 1

-- whatever text of s was noted last, it is noted last of t then, with this payload before it
abbrev pub PutsBefore : List ℕ → SlotId → SlotId → SeatState View → SeatState View → Type 0
PutsBefore payload s t old new =
    (text : Text) (others : List Rope)
    → old.view.client.noted ≡ candidate_in s text old ∷ others
    → NotesLast (candidate_in t (payload ∷ text) new) others old.view.client new.view.client

-- It has made one slot of this payload, and given it s, which it had made before.
pub record HasMadeBefore (payload : List ℕ) (s t : SlotId) (old new : SeatState View) : Type 0 where
  pub owned : 0 < times t new.view.core.owned
  pub payload_is : (object_in new.view t).payload ≡ payload
  pub puts : PutsBefore payload s t old new
  pub makes : new.view.core.makes ≡ old.view.core.makes + 1
  pub adds : new.view.core.adds ≡ old.view.core.adds + 1

-- WHAT IS LINKED
-- The seat owns both t and s, a part. It has noted t last, with its payload alone, and before it some text of s.
pub record HasTwo (t s : SlotId) (seat : SeatState View) : Type 0 where
  pub owned : 0 < times s seat.view.core.owned
  pub besides : 0 < times t (without s seat.view.core.owned)
  pub part : IsPart (object_in seat.view s).payload
  pub text : Text
  pub others : List Rope
  pub noted :
      seat.view.client.noted
      ≡ candidate_in t ((object_in seat.view t).payload ∷ []) seat
      ∷ candidate_in s text seat ∷ others

-- whatever text of s was noted before t, it is noted last of t then, with its payload before it
abbrev pub Links : SlotId → SlotId → SeatState View → SeatState View → Type 0
Links t s old new =
    (text : Text) (others : List Rope)
    → old.view.client.noted
    ≡ candidate_in t ((object_in old.view t).payload ∷ []) old ∷ candidate_in s text old ∷ others
    → NotesLast (candidate_in t ((object_in old.view t).payload ∷ text) new) others old.view.client
    new.view.client

-- REFUSALS
-- Between two states of the call each slot of the domain was found taken, and no slot was tried after that; and there
-- are no more slots than the makes that this seat has used by the return and those that all other seats were given.
pub record MissesWithin (d : DomainState CellLaw) (old new : SeatState View) : Type 0 where
  pub mid : SeatState View
  pub late : SeatState View
  pub misses : IsFull IsPiece d mid late
  pub since : GoesOn old.view.core mid.view.core
  pub till : GoesUnclaimed late.view.core new.view.core
  pub fit : SlotsFitMakes d new.view.core

-- what is so where a make was refused
abbrev pub IsCause : DomainState CellLaw → RecordError → SeatState View → SeatState View → Type 0
IsCause d refused.MakesSpent old new = HasNoMake new.view.core
IsCause d refused.AddsSpent old new = IsSpent new.view.core
IsCause d refused.Full old new = MissesWithin d old new
IsCause d refused.OutOfMemory old new = Unit {0}

-- fewer makes than n were used where no make or add was left, or each slot was found taken: the slot for which the call
-- was refused used none
abbrev pub UsesFewer : RecordError → ℕ → SeatState View → SeatState View → Type 0
UsesFewer refused.MakesSpent n old new = new.view.core.makes < old.view.core.makes + n
UsesFewer refused.AddsSpent n old new = new.view.core.makes < old.view.core.makes + n
UsesFewer refused.Full n old new = new.view.core.makes < old.view.core.makes + n
UsesFewer refused.OutOfMemory n old new = Unit {0}

-- nothing was made: with this cause, and nothing but the notes of the client's view has changed
pub record IsRefused (d : DomainState CellLaw) (error : RecordError) (old new : SeatState View)
    : Type 0 where
  pub cause : IsCause d error old new
  pub client : NotesOnly old.view.client new.view.client
