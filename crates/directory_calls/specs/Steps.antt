-- Something that was so at a step of a call, and what the call leaves of its seat.
use Rattle.std.specs.Prelude.{ℕ, ◌≡◌, List, [], ◌∷◌, ◌++◌, Option, Some, None, Result, Ok, Err}
use Rattle.protected_loads.specs.plain_state.declared.slot.SlotId.{SlotId}
use Rattle.protected_loads.specs.plain_state.Lists.{times}
use Rattle.protected_loads.specs.plain_state.State.{Plain}
use Rattle.protected_loads.specs.core_events.declared.act.Act.{Act}
use Rattle.protected_loads.specs.core_events.declared.view.CoreView.{CoreView}
use Rattle.protected_loads.specs.core_events.declared.view.Move.{Move}
use Rattle.protected_loads.specs.core_events.Steps.{moved}
use Rattle.protected_loads.specs.core_events.Views.{Holds}
use Rattle.protected_loads.specs.counted_handles.Handles.{Handle}
use Rattle.protected_loads.specs.domain_rule.Told.{Happened}
use Rattle.protected_loads.specs.domain_rule.Views.{object_in}
use Rattle.protected_loads.specs.acquire_retire.Collecting.{rest_of}
use Rattle.protected_loads.specs.acquire_retire.Domains.{DomainState}
use Rattle.protected_loads.specs.acquire_retire.Seats.{SeatState}

-- the trail goes on by some moves
abbrev pub GoesOn : CoreView → CoreView → Type 0
GoesOn v w = (ms : List Move) × (w.trail ≡ v.trail ++ ms)

-- The seat made a step between these two states, of which this held: of the plain state that the domain showed before
-- it, and of the one that it showed after it.
pub record AtSome {P V : Type 0} (d : DomainState P) (Fact : Plain → Plain → Type 0)
    (old new : SeatState V) : Type 0 where
  pub view : CoreView
  pub act : Act
  pub word : ℕ
  pub happened : Happened d.shape d.terms old.view.core.seat view act word Fact
  pub since : GoesOn old.view.core view
  pub till : GoesOn (moved d.shape act word view) new.view.core

-- before the step the fact held
abbrev pub AtStep : {P V : Type 0} → DomainState P → (Plain → Type 0) → SeatState V → SeatState V
    → Type 0
AtStep d fact old new = AtSome d (λ p q. fact p) old new

-- after the step it held
abbrev pub AfterStep : {P V : Type 0} → DomainState P → (Plain → Type 0) → SeatState V
    → SeatState V → Type 0
AfterStep d fact old new = AtSome d (λ p q. fact q) old new

-- what a seat has beside its references, its batch, its dying and ripe slots, and its trail; and beside how many
-- objects it made and how many adds it used
abbrev pub aside : CoreView → CoreView
aside v = record (rest_of v) { owned = []; weaks = []; made = []; adds = 0; makes = 0 }

abbrev pub with_found : Option SlotId → List SlotId → List SlotId
with_found None xs = xs
with_found (Some s) xs = xs ++ s ∷ []

-- the slot that a call answers a handle of; none where it was refused
abbrev pub handle_by : {E : Type 0} → Result Handle E → Option SlotId
handle_by (Ok handle) = Some handle.slot
handle_by (Err error) = None

-- The seat owns these references strongly and these weakly, in some order. What it has beside is as it was, and so is
-- what it knows of the objects that it held and still holds.
pub record Leaves {V : Type 0} (owned weaks : List SlotId) (old new : SeatState V) : Type 0 where
  pub owns : (x : SlotId) → times x new.view.core.owned ≡ times x owned
  pub weakly : (x : SlotId) → times x new.view.core.weaks ≡ times x weaks
  pub same : aside new.view.core ≡ aside old.view.core
  pub goes : GoesOn old.view.core new.view.core
  pub knows :
      (x : SlotId) → Holds old.view.core x → Holds new.view.core x
      → object_in new.view x ≡ object_in old.view x
