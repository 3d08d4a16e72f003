-- What a walk meets, and what a find answers.
use Rattle.std.specs.Prelude.{Bool, false, true, ℕ, ◌≡◌, ◌⊎◌, ◌<◌, List, Option, Some, None, Result, Ok, Err}
use Rattle.atomic_weak.specs.plain_state.declared.slot.SlotId.{SlotId}
use Rattle.atomic_weak.specs.core_events.declared.view.CoreView.{CoreView}
use Rattle.atomic_weak.specs.counted_handles.Handles.{Handle}
use Rattle.atomic_weak.specs.acquire_retire.Domains.{DomainState}
use Rattle.atomic_weak.specs.acquire_retire.Seats.{SeatState}
use Rattle.atomic_weak.specs.Places.{named}
use Rattle.record_making.specs.directory_law.declared.view.View.{View}
use Rattle.record_making.specs.directory_law.Cells.{Area}
use Rattle.record_making.specs.directory_law.Lessons.{spent}
use Rattle.record_making.specs.directory_law.Law.{IsBound, NoneBound}
use Rattle.record_making.specs.directory_law.Payloads.{Text}
use Rattle.record_making.specs.directory_law.Walks.{Passes, Walked}
use Rattle.weak_intern.specs.declared.looking.Sight.{Sight}
use Rattle.weak_intern.specs.declared.looking.Sight.TheVariants as sight
use Rattle.weak_intern.specs.declared.walking.Walk.{Walk}
use Rattle.weak_intern.specs.declared.walking.Walk.TheVariants as walk
use Rattle.record_making.specs.directory_calls.Directories.{HasNoRecord, IsRecord}
use Rattle.weak_intern.specs.Knowing.{Knows}
use Rattle.weak_intern.specs.Seeing.{EndsAt, HasSeenAt}
use Rattle.weak_intern.specs.declared.seeing.Sighted.{Sighted}
use Rattle.weak_intern.specs.Costs.{TakesBy}
use Rattle.weak_intern.specs.Sighting.{Ends, Raises, Sights, Visits}
use Rattle.record_making.specs.directory_calls.Steps.{AtStep}

-- the record that a walk met, if it met one
abbrev pub met : Sight → Option SlotId
met sight.Null = None
met sight.Other = None
met (sight.Record strong) = Some strong.slot

abbrev pub met_by : {E : Type 0} → Result Sight E → Option SlotId
met_by (Ok found) = met found
met_by (Err error) = None

abbrev pub found_by : {E : Type 0} → Result (Option Handle) E → Option SlotId
found_by (Ok found) = named found
found_by (Err error) = None

-- how many interns a raise or a look used that answers so
abbrev pub raised_by : {E : Type 0} → Bool → Result Handle E → ℕ
raised_by intern (Ok strong) = spent intern
raised_by intern (Err error) = 0

abbrev pub taken : Bool → Sight → ℕ
taken intern sight.Null = 0
taken intern sight.Other = 0
taken intern (sight.Record strong) = spent intern

abbrev pub taken_by : {E : Type 0} → Bool → Result Sight E → ℕ
taken_by intern (Ok found) = taken intern found
taken_by intern (Err error) = 0

-- THE MOVES, of which a seat met this where it looked for a short text with this payload: in weak
-- cell i
abbrev pub FoundBy : ℕ → List ℕ → Sight → CoreView → CoreView → Type 0
FoundBy i payload sight.Null v w = (j : ℕ) × Sights i j None v w
FoundBy i payload sight.Other v w =
    (s : SlotId) × (Visits i s payload None v w ⊎ Visits i s payload (Some false) v w)
FoundBy i payload (sight.Record strong) v w = Visits i strong.slot payload (Some true) v w

-- or it was refused, in a head that it let go
abbrev pub LooksBy : {E : Type 0} → ℕ → List ℕ → Result Sight E → CoreView → CoreView → Type 0
LooksBy i payload (Ok found) v w = FoundBy i payload found v w
LooksBy i payload (Err error) v w = (s : SlotId) × Visits i s payload None v w

-- in a head that it saw
abbrev pub EndsBy : {E : Type 0} → Sighted → List ℕ → Result Sight E → CoreView → CoreView
    → Type 0
EndsBy it payload (Ok sight.Null) v w = ⊥
EndsBy it payload (Ok sight.Other) v w =
    Ends it payload None v w ⊎ Ends it payload (Some false) v w
EndsBy it payload (Ok (sight.Record strong)) v w =
    (strong.slot ≡ it.slot) × Ends it payload (Some true) v w
EndsBy it payload (Err error) v w = Ends it payload None v w

-- and in one that it had compared
abbrev pub RaisesBy : {E : Type 0} → Sighted → Result Sight E → CoreView → CoreView → Type 0
RaisesBy it (Ok sight.Null) v w = ⊥
RaisesBy it (Ok sight.Other) v w = Raises it (Some false) v w
RaisesBy it (Ok (sight.Record strong)) v w = (strong.slot ≡ it.slot) × Raises it (Some true) v w
RaisesBy it (Err error) v w = Raises it None v w

-- of a view, `seen` is what it has of the directory
module _ {P V : Type 0} (seen : V → View) (d : DomainState P) (z : Area) where
  -- what a walk for a text met in a cell: null, where it ends; a cell that it passes; or the live
  -- record, which the seat saw there
  abbrev pub Meets : ℕ → Text → Sight → SeatState V → SeatState V → Type 0
  Meets c text sight.Null old new = EndsAt seen d z c old new
  Meets c text sight.Other old new = Passes (seen new.view.client) text c
  Meets c text (sight.Record strong) old new =
      AtStep d (λ p. IsBound z p text strong.slot) old new × Knows seen strong.slot text new

  -- what it met in s, in whatever cell the seat saw it
  abbrev pub MeetsIn : SlotId → Text → Sight → SeatState V → SeatState V → Type 0
  MeetsIn s text sight old new =
      (c : ℕ) → HasSeenAt seen c s old → Meets c text sight old new

  -- a text that passes all the cells had no live record, at a step between these states
  abbrev pub EndsAround : SeatState V → SeatState V → Type 0
  EndsAround old new =
      (text : Text) → Walked z (seen old.view.client) text z.cells
      → AtStep d (λ p. NoneBound z p text) old new

-- the record that a walk came to
abbrev pub walked_to : Walk → Option SlotId
walked_to (walk.Record strong) = Some strong.slot
walked_to (walk.Absent passed) = None

abbrev pub walked_by : {E : Type 0} → Result Walk E → Option SlotId
walked_by (Ok found) = walked_to found
walked_by (Err error) = None

-- how many interns it used
abbrev pub used_by : {E : Type 0} → Bool → Result Walk E → ℕ
used_by intern (Ok (walk.Record strong)) = spent intern
used_by intern (Ok (walk.Absent passed)) = 0
used_by intern (Err error) = 0

-- what a walk for a short text with this payload cost that came to a record
abbrev pub CostsBy : List ℕ → Walk → CoreView → CoreView → Type 0
CostsBy payload (walk.Record strong) v w = TakesBy payload strong.slot v w
CostsBy payload (walk.Absent passed) v w = Unit {0}

-- At a step of the walk its text had this live record; or it had none, and the walk has passed so
-- many cells, fewer than all.
abbrev pub ComesTo : {P V : Type 0} → (V → View) → DomainState P → Area → Text → Walk
    → SeatState V → SeatState V → Type 0
ComesTo seen d z text (walk.Record strong) old new =
    AtStep d (λ p. IsBound z p text strong.slot) old new × Knows seen strong.slot text new
ComesTo seen d z text (walk.Absent passed) old new =
    AtStep d (λ p. NoneBound z p text) old new
    × (passed < z.cells) × Walked z (seen new.view.client) text passed

-- at a step of the call the bytes had this live record, or none
module _ {P V : Type 0} (d : DomainState P) (z : Area) where
  abbrev pub Finds : List ℕ → Option SlotId → SeatState V → SeatState V → Type 0
  Finds bytes None old new = AtStep d (λ p. HasNoRecord z p bytes) old new
  Finds bytes (Some s) old new = AtStep d (λ p. IsRecord z p bytes s) old new
