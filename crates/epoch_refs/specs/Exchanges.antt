-- What an exchange of a place's content does.
use Rattle.std.specs.Prelude.{ℕ, ◌≡◌, ◌≢◌, List, [], ◌∷◌, Option, Some, None, Result, Ok, Err}
use Rattle.control_word.specs.counted_handles.Handles.{Handle}
use Rattle.epoch_domain.specs.plain_protocol.plain_state.declared.act.EventPlace.{EventPlace}
use Rattle.epoch_domain.specs.plain_protocol.plain_state.declared.act.PlainAct.{PlainAct}
use Rattle.epoch_domain.specs.plain_protocol.plain_state.declared.slot.SlotId.{SlotId}
use Rattle.epoch_domain.specs.plain_protocol.plain_state.State.{Plain}
use Rattle.epoch_domain.specs.plain_protocol.plain_state.Steps.{word_of}
use Rattle.epoch_domain.specs.plain_protocol.Owns.{OwnPart}
use Rattle.epoch_domain.specs.epoch_core.declared.act.EpochAct.{EpochAct}
use Rattle.epoch_domain.specs.epoch_core.declared.act.EpochAct.TheVariants as act
use Rattle.epoch_domain.specs.epoch_core.declared.outcome.EpochOutcome.{EpochOutcome}
use Rattle.epoch_domain.specs.epoch_core.declared.outcome.EpochOutcome.TheVariants as outcome
use Rattle.epoch_domain.specs.Calls.{Steps}
use Rattle.epoch_domain.specs.Domains.{DomainState}
use Rattle.epoch_domain.specs.Seats.{SeatState}
use Rattle.epoch_refs.specs.declared.exchanges.ECasError.{ECasError}
use Rattle.epoch_refs.specs.declared.exchanges.ECasError.TheVariants as refused
use Rattle.epoch_refs.specs.Calls.{slot_of}
use Rattle.epoch_refs.specs.Walks.{Walks, move}

module _ {V : Type 0} where
  -- nothing has changed but the room for pending entries
  abbrev pub IsUnchanged : SeatState V → SeatState V → Type 0
  IsUnchanged old new = (new.table ≡ old.table) × (new.view ≡ old.view)

module _ {P V : Type 0} (fits : List ℕ → Type 0) (d : DomainState P) where
  -- what follows an exchange that took this content out of a place: the epoch is read, which dates it
  abbrev pub Dates : Option SlotId → SeatState V → SeatState V → Type 0
  Dates None old new = new ≡ old
  Dates (Some s) old new = (e : ℕ) × Walks fits d (move act.Date (outcome.Epoch e) ∷ []) old new

  -- Room was taken for one entry. An exchange took this content out of a place, in an event that the deed was told of;
  -- and where that was a slot, another event has read the epoch, and the slot is a pending entry of that date.
  pub record TakesOut (next : OwnPart → OwnPart → V → PlainAct → ℕ → V)
      (allows : Plain → Plain → ℕ → V → V → Type 0) (a : EpochAct) (o : EpochOutcome)
      (took : Option SlotId) (old new : SeatState V) : Type 0 where
    pub ready : SeatState V
    pub reserved : IsUnchanged old ready
    pub between : SeatState V
    pub exchange : Steps fits d next allows a ready between o
    pub dates : Dates took between new

  -- a store has taken out what the place held
  abbrev pub IsStored : (OwnPart → OwnPart → V → PlainAct → ℕ → V)
      → (Plain → Plain → ℕ → V → V → Type 0) → EpochAct → SeatState V → SeatState V → Type 0
  IsStored next allows a old new =
      (held : Option SlotId) × TakesOut next allows a (outcome.Found held) held old new

  -- what the exchange that lost has found is told, and what was to be put into the place is given back
  pub record IsLost (next : OwnPart → OwnPart → V → PlainAct → ℕ → V)
      (allows : Plain → Plain → ℕ → V → V → Type 0) (place : EventPlace)
      (expected : Option SlotId) (handle back : Option Handle) (now : ℕ) (old new : SeatState V)
      : Type 0 where
    pub gives_back : back ≡ handle
    pub held : Option SlotId
    pub word : now ≡ word_of held
    pub other : now ≢ word_of expected
    pub found :
        TakesOut next allows (act.Cas place expected (slot_of handle)) (outcome.LostTo held) None
        old new

  -- the answer of an exchange: it was done where the place held what was expected; else it tells what it found
  abbrev pub IsExchanged : (OwnPart → OwnPart → V → PlainAct → ℕ → V)
      → (Plain → Plain → ℕ → V → V → Type 0) → EventPlace → Option SlotId → Option Handle
      → Result (Unit {0}) ECasError → SeatState V → SeatState V → Type 0
  IsExchanged next allows place expected handle (Ok u) old new =
      TakesOut next allows (act.Cas place expected (slot_of handle)) outcome.Done expected old new
  IsExchanged next allows place expected handle (Err (refused.Lost now back)) old new =
      IsLost next allows place expected handle back now old new
  IsExchanged next allows place expected handle (Err (refused.OutOfMemory b)) old new =
      (b.back ≡ handle) × IsUnchanged old new
