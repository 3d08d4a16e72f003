-- What a seat sees in one cell of a directory.
use Rattle.std.specs.Prelude.{ℕ, ◌≡◌, ◌∷◌, Option, Some, None}
use Rattle.atomic_weak.specs.plain_state.declared.slot.SlotId.{SlotId}
use Rattle.atomic_weak.specs.plain_state.State.{Plain}
use Rattle.atomic_weak.specs.domain_rule.Views.{object_in}
use Rattle.atomic_weak.specs.acquire_retire.Domains.{DomainState}
use Rattle.atomic_weak.specs.acquire_retire.Seats.{SeatState}
use Rattle.record_making.specs.directory_law.Payloads.{Text, IsText}
use Rattle.record_making.specs.directory_law.declared.view.Seen.{Seen}
use Rattle.record_making.specs.directory_law.declared.view.View.{View}
use Rattle.record_making.specs.directory_law.Views.{In}
use Rattle.record_making.specs.directory_law.Cells.{Area, on}
use Rattle.record_making.specs.directory_law.Law.{IsBound, NoneBound}
use Rattle.record_making.specs.directory_law.Walks.{Walked}
use Rattle.record_making.specs.directory_calls.Steps.{AtStep}

-- what the seat has in s, as a head that it saw in a cell
abbrev pub seen_in : {V : Type 0} → ℕ → SlotId → SeatState V → Seen
seen_in c s seat = record {
  cell = c;
  slot = s;
  life = (object_in seat.view s).life;
  head = (object_in seat.view s).payload;
}

-- the text begins with what the seat has in s, a head which was the live record of such a text
abbrev pub BeginsText : {V : Type 0} → Area → SlotId → SeatState V → Plain → Type 0
BeginsText z s seat p =
    (tail : Text) × IsText ((object_in seat.view s).payload ∷ tail)
    × IsBound z p ((object_in seat.view s).payload ∷ tail) s

-- of a view, `seen` is what it has of the directory
module _ {V : Type 0} (seen : V → View) where
  -- the seat has noted that it saw s in cell c, as it has it now
  abbrev pub HasSeenAt : ℕ → SlotId → SeatState V → Type 0
  HasSeenAt c s seat = In (seen_in c s seat) (seen seat.view.client).seen

  abbrev pub HasSeenIn : SlotId → SeatState V → Type 0
  HasSeenIn s seat = (c : ℕ) × HasSeenAt c s seat

  module _ {P : Type 0} (d : DomainState P) (z : Area) where
    -- wherever the walk of a text comes to this cell, the text had no live record, at a step
    -- between these states
    abbrev pub EndsAt : ℕ → SeatState V → SeatState V → Type 0
    EndsAt c old new =
        (text : Text) (m : ℕ) → Walked z (seen old.view.client) text m → on z text m ≡ c
        → AtStep d (λ p. NoneBound z p text) old new

    -- the cell was null; or the seat has noted the head that it held
    abbrev pub Sees : ℕ → Option SlotId → SeatState V → SeatState V → Type 0
    Sees c None old new = EndsAt c old new
    Sees c (Some s) old new = HasSeenAt c s new
