-- What a seat that is alone knows of the whole state.
use Rattle.std.specs.Prelude.{ℕ, ◌≡◌, List, Some}
use Rattle.epoch_refs.specs.plain_protocol.plain_state.declared.slot.SlotId.{SlotId}
use Rattle.epoch_refs.specs.plain_protocol.plain_state.State.{Plain, slot_at}
use Rattle.epoch_refs.specs.plain_protocol.Owns.{HasSlot, object_of}
use Rattle.epoch_refs.specs.epoch_core.Alone.{IsOnly}
use Rattle.epoch_refs.specs.epoch_core.Runs.{view_at}
use Rattle.epoch_refs.specs.epoch_core.Shows.{show_seat, shows}
use Rattle.epoch_refs.specs.epoch_core.Sound.{Sound}
use Rattle.epoch_refs.specs.epoch_domain.Domains.{DomainState}
use Rattle.epoch_refs.specs.epoch_domain.Leavings.{KnowsSame}
use Rattle.epoch_refs.specs.epoch_domain.Seats.{SeatState}
use Rattle.epoch_refs.specs.epoch_domain.Wholes.{KnowsState}
use Rattle.epoch_refs.specs.epoch_rule.declared.view.EpochSeatView.{EpochSeatView}
use Rattle.epoch_refs.specs.epoch_rule.declared.view.EpochWhole.{EpochWhole}
use Rattle.epoch_refs.specs.epoch_rule.Views.{core_in, object_in, own_of}
use Rattle.law_lesson.specs.Lessons.{HoldsOf}

module _ {V : Type 0} where
  -- It knows the whole state before and the one now, of which this holds.
  pub record KnowsBoth (Then : Plain → Plain → Type 0) (old new : EpochSeatView V) : Type 0 where
    pub before : Plain
    pub now : Plain
    pub knew : (own_of old).whole ≡ Some before
    pub knows : (own_of new).whole ≡ Some now
    pub then : Then before now

  -- The seat has what it had, but for its trail, and knows what it knew: its own part, with the whole state, its
  -- client's view, and the objects of its slots.
  pub record StaysAll (old new : SeatState V) : Type 0 where
    pub core : new.view.core ≡ record old.view.core { trail = new.view.core.trail }
    pub own : own_of new.view ≡ own_of old.view
    pub client : new.view.client ≡ old.view.client
    pub objects : KnowsSame old.view new.view

module _ {P V : Type 0} (fits : List ℕ → Type 0) (d : DomainState P) where
  -- p is the whole state, as a seat knows it that is seat 0 and alone in the domain: it is what a core shows that is
  -- sound, in which every other seat has left, and seat 0 has what the view says. The objects of its slots are there as
  -- it knows them.
  pub record IsLoneState (v : EpochSeatView V) (p : Plain) : Type 0 where
    pub knows : KnowsState fits v p
    pub all : EpochWhole
    pub whole : v.whole ≡ Some all
    pub shown : p ≡ shows d.shape (core_in all)
    pub sound : Sound d.shape (core_in all)
    pub only : IsOnly d.shape (core_in all) 0
    pub half : v.core ≡ view_at (core_in all) 0
    pub objects :
        (s : SlotId) → HasSlot (show_seat v.core) s → object_in v s ≡ object_of (slot_at p s)

  -- The seat knows the whole state, in which it is alone, and the law holds of it and of the views of all clients.
  pub record KnowsLaw (law : Plain → List V → Type 0) (gone : V) (v : EpochSeatView V) : Type 0 where
    pub state : Plain
    pub lone : IsLoneState v state
    pub holds : HoldsOf law gone state 0 v.client
