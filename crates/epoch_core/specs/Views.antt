-- What a seat has by its view: what it holds, which places are open to it.
use Rattle.std.specs.Prelude.{ℕ, ◌≡◌, ◌<◌, ◌+◌, false, List, [], ◌∷◌, Option, Some, None}
use Rattle.core_law.specs.plain_state.declared.act.EventPlace.{EventPlace}
use Rattle.core_law.specs.plain_state.declared.act.EventPlace.TheVariants.{Cell, Field, WeakCell, WeakField}
use Rattle.core_law.specs.plain_state.declared.slot.SlotId.{SlotId}
use Rattle.core_law.specs.plain_state.Lists.{times}
use Rattle.core_law.specs.core_events.declared.shape.Quota.{Quota}
use Rattle.epoch_core.specs.declared.shape.EpochShape.{EpochShape}
use Rattle.epoch_core.specs.declared.view.EpochPhase.{EpochPhase}
use Rattle.epoch_core.specs.declared.view.EpochPhase.TheVariants as phase
use Rattle.epoch_core.specs.declared.view.EpochView.{EpochView}

-- seat n has done nothing
abbrev pub first_view : EpochShape → ℕ → Quota → EpochView
first_view z n q = record {
  seat = n;
  shape = z;
  quota = q;
  owned = [];
  pending = [];
  dying = [];
  phase = phase.Idle;
  number = 0;
  seen = [];
  known = 0;
  adds = 0;
  makes = 0;
  left = false;
  trail = [];
  made = [];
  left_seats = [];
}

abbrev pub first_views : EpochShape → ℕ → List Quota → List EpochView
first_views z n [] = []
first_views z n (q ∷ qs) = first_view z n q ∷ first_views z (n + 1) qs

-- a view where there is no seat
abbrev pub no_view : EpochView
no_view = first_view (record { seats = 0; slots = 0; cells = 0 }) 0 (record { makes = 0; adds = 0 })

-- the seat is there, and in the middle of nothing
abbrev pub IsIdle : EpochView → Type 0
IsIdle v = (v.phase ≡ phase.Idle) × (v.left ≡ false)

-- its region is open
abbrev pub IsInside : EpochView → Type 0
IsInside v = 0 < v.number

-- it owns s, or its region has seen s
abbrev pub Holds : EpochView → SlotId → Type 0
Holds v s = 0 < times s v.owned + times s v.seen

-- a cell is open to every seat, a field to a seat that holds its slot
abbrev pub IsOpen : EpochShape → EpochView → EventPlace → Type 0
IsOpen z v (Cell i) = i < z.cells
IsOpen z v (Field s i) = (i < 2) × Holds v s
IsOpen z v (WeakCell i) = ⊥
IsOpen z v (WeakField s) = ⊥

-- the slot of a phase that has one
abbrev pub slot_of : EpochPhase → Option SlotId
slot_of phase.Idle = None
slot_of (phase.Entering e) = None
slot_of (phase.Undated s) = Some s
slot_of (phase.Blank s) = Some s
slot_of (phase.Scan w) = None

-- the epoch that a phase has read, if it has read one
abbrev pub epoch_of : EpochPhase → ℕ
epoch_of phase.Idle = 0
epoch_of (phase.Entering e) = e
epoch_of (phase.Undated s) = 0
epoch_of (phase.Blank s) = 0
epoch_of (phase.Scan w) = w.epoch
