-- What a settle leaves: what snapshots of its own seat keep, and cycles.
use Rattle.std.specs.Prelude.{ℕ, ◌≡◌, ◌⊎◌, ◌<◌, ◌≤◌, [], slice_index_or, Some, None}
use Rattle.protocol_pairs.specs.plain_state.declared.slot.Kind.{Kind}
use Rattle.protocol_pairs.specs.plain_state.declared.slot.Kind.TheVariants.{Disposal}
use Rattle.protocol_pairs.specs.plain_state.declared.slot.SlotId.{SlotId}
use Rattle.protocol_pairs.specs.plain_state.declared.slot.Stage.TheVariants.{Live}
use Rattle.protocol_pairs.specs.plain_state.Lists.{entry_times, times}
use Rattle.protocol_pairs.specs.plain_state.State.{Plain, slot_at, stage_at}
use Rattle.claim_law.specs.core_events.declared.view.CoreView.{CoreView}
use Rattle.claim_law.specs.core_events.Views.{snapshots}
use Rattle.retiring_stores.specs.domain_rule.declared.view.SeatView.{SeatView}
use Rattle.retiring_stores.specs.domain_rule.Views.{own_of}

-- Nothing is ripe. Of equal retired entries no more are left than the seat is under such snapshots,
-- and only slots of which it is under a weak snapshot are dying.
pub record IsQuiet (v : CoreView) : Type 0 where
  pub entries : (k : Kind) (s : SlotId) → entry_times k s v.retired ≤ entry_times k s (snapshots v)
  pub dying : (s : SlotId) → 0 < times s v.dying → 0 < entry_times Disposal s (snapshots v)
  pub ripe : v.ripe ≡ []

-- all strong cells are null
abbrev pub HasNullCells : Plain → Type 0
HasNullCells p = (i : ℕ) → slice_index_or p.cells i None ≡ None

-- a strong field of x holds s
abbrev pub RefersTo : Plain → SlotId → SlotId → Type 0
RefersTo p s x = ((slot_at p x).first ≡ Some s) ⊎ ((slot_at p x).second ≡ Some s)

-- The seat has nothing retired and nothing dying, and each object that lives is referred to by
-- another one, or by itself: so it is reached from a cycle of strong references.
pub record OnlyCycles (v : CoreView) (p : Plain) : Type 0 where
  pub retired : v.retired ≡ []
  pub dying : v.dying ≡ []
  pub referred :
      (s : SlotId) → stage_at p s ≡ Live
      → (x : SlotId) × (stage_at p x ≡ Live) × RefersTo p s x

-- of the whole state, which the seat knows, only cycles are left where it holds nothing strongly, is
-- under no snapshot, and all strong cells are null
abbrev pub LeavesCycles : {V : Type 0} → SeatView V → Type 0
LeavesCycles v =
    (p : Plain) → (own_of v).whole ≡ Some p → v.core.owned ≡ [] → snapshots v.core ≡ []
    → HasNullCells p → OnlyCycles v.core p
