-- What the calls on handles do.
use Rattle.std.specs.Prelude.{ℕ, ◌≡◌, ◌+◌, List, [], ◌∷◌, ◌++◌, Option, Some, None}
use Rattle.epoch_domain.specs.plain_protocol.plain_state.declared.act.EventPlace.{EventPlace}
use Rattle.epoch_domain.specs.plain_protocol.plain_state.declared.act.EventPlace.TheVariants.{Cell, Field}
use Rattle.epoch_domain.specs.plain_protocol.plain_state.declared.slot.SlotId.{SlotId}
use Rattle.control_word.specs.counted_handles.declared.place.Place.{Place}
use Rattle.control_word.specs.counted_handles.declared.place.Place.TheVariants as place
use Rattle.control_word.specs.counted_handles.Handles.{Handle}
use Rattle.epoch_domain.specs.epoch_core.declared.act.EpochAct.TheVariants as act
use Rattle.epoch_domain.specs.epoch_core.declared.outcome.EpochOutcome.TheVariants as outcome
use Rattle.epoch_domain.specs.epoch_core.declared.view.EpochView.{EpochView}
use Rattle.epoch_domain.specs.Domains.{DomainState}
use Rattle.epoch_domain.specs.Seats.{SeatState}
use Rattle.epoch_refs.specs.Walks.{Walks, move}

-- a place, as events name it
abbrev pub event_place : Place → EventPlace
event_place (place.Cell i) = Cell i
event_place (place.Field s i) = Field s i

-- the slot of a handle, where there is one
abbrev pub slot_of : Option Handle → Option SlotId
slot_of None = None
slot_of (Some h) = Some h.slot

-- the seat has used all adds of its quota
abbrev pub IsSpent : EpochView → Type 0
IsSpent v = v.adds ≡ v.quota.adds

module _ {P V : Type 0} (fits : List ℕ → Type 0) (d : DomainState P) where
  -- two events open a region: the epoch is read, and it and one are stored in the seat's region word
  pub record Enters (old new : SeatState V) : Type 0 where
    pub epoch : ℕ
    pub walks :
        Walks fits d (move act.Enter (outcome.Epoch epoch) ∷ move act.Open outcome.Plain ∷ [])
        old new
    pub core :
        new.view.core
        ≡ record old.view.core {
          number = epoch + 1;
          seen = [];
          trail = old.view.core.trail
              ++ move act.Enter (outcome.Epoch epoch) ∷ move act.Open outcome.Plain ∷ [];
        }
