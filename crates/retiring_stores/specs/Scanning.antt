-- When a scan is due, and what a collect leaves of a seat that is at rest.
use Rattle.std.specs.Prelude.{ℕ, ◌≡◌, ◌⊎◌, ◌<◌, ◌≤◌, List, length}
use Rattle.control_word.specs.plain_state.declared.slot.SlotId.{SlotId}
use Rattle.control_word.specs.plain_state.Lists.{times}
use Rattle.control_word.specs.core_events.Views.{room_of}
use Rattle.control_word.specs.acquire_retire.declared.payment.Work.{Work}
use Rattle.control_word.specs.acquire_retire.Collecting.{Collects}
use Rattle.control_word.specs.acquire_retire.Domains.{DomainState}
use Rattle.control_word.specs.acquire_retire.Seats.{SeatState}
use Rattle.control_word.specs.Moves.{KnowsStill}
use Rattle.control_word.specs.Resting.{IsAtRest}

-- as many entries are retired as there are announcement words, and a batch
abbrev pub IsDue : {P V : Type 0} → DomainState P → SeatState V → Type 0
IsDue d s = room_of d.shape ≤ length s.view.core.retired

-- fewer are
abbrev pub IsBelow : {P V : Type 0} → DomainState P → SeatState V → Type 0
IsBelow d s = length s.view.core.retired < room_of d.shape

module _ {P V : Type 0} (fits : List ℕ → Type 0) (d : DomainState P) where
  -- The seat has collected, and is at rest. What was dying or ripe is so still. Of the objects of
  -- the slots that it had it knows what it knew, and it has left the same fields null.
  pub record Collected (old new : SeatState V) : Type 0 where
    pub work : Work
    pub collects : Collects fits d old new work
    pub dying : (s : SlotId) → 0 < times s old.view.core.dying → 0 < times s new.view.core.dying
    pub ripe : (s : SlotId) → 0 < times s old.view.core.ripe → 0 < times s new.view.core.ripe
    pub knows : KnowsStill old.view.core old new
    pub cleared : new.view.cleared ≡ old.view.cleared
    pub below : IsBelow d new
    pub rest : IsAtRest d new

  abbrev pub MayCollect : SeatState V → SeatState V → Type 0
  MayCollect old new = (new ≡ old) ⊎ Collected old new

  -- the seat has collected where a scan was due, and else done nothing
  abbrev pub ScansWhereDue : SeatState V → SeatState V → Type 0
  ScansWhereDue old new =
      (IsDue d old × Collected old new) ⊎ (IsBelow d old × (new ≡ old))
