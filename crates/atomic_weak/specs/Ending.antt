-- How a weak snapshot ends.
use Rattle.std.specs.Prelude.{ℕ, ◌≢◌, List, [], ◌∷◌, Option, Some, None}
use Rattle.protected_loads.specs.plain_state.declared.slot.SlotId.{SlotId}
use Rattle.protected_loads.specs.core_events.declared.act.Act.TheVariants as act
use Rattle.protected_loads.specs.core_events.declared.outcome.Outcome.TheVariants as outcome
use Rattle.protected_loads.specs.core_events.declared.view.CoreView.{CoreView}
use Rattle.protected_loads.specs.core_events.declared.view.Note.TheVariants as note
use Rattle.protected_loads.specs.core_events.Steps.{with_note}
use Rattle.protected_loads.specs.acquire_retire.Calls.{IsSameView, same_view}
use Rattle.protected_loads.specs.acquire_retire.Collecting.{move}
use Rattle.protected_loads.specs.acquire_retire.Domains.{DomainState}
use Rattle.protected_loads.specs.acquire_retire.Seats.{SeatState}
use Rattle.protected_loads.specs.control_word.Calls.{DropsStrong, without_strong}
use Rattle.protected_loads.specs.control_word.Moves.{Becomes}
use Rattle.atomic_weak.specs.WeakSnapshots.{IsUnder, WeakSnap}

-- what a seat has, but for its trail, once its word stands for nothing, or its reference is given
-- up
abbrev pub without_guarded : Option ℕ → SlotId → CoreView → CoreView
without_guarded None s v = without_strong s v
without_guarded (Some j) s v = with_note j note.Idle v

abbrev pub without_snapshot : WeakSnap → CoreView → CoreView
without_snapshot snap v = without_guarded snap.word snap.slot v

-- the weak snapshots by other words stay
abbrev pub KeepsOthers : WeakSnap → CoreView → CoreView → Type 0
KeepsOthers ended v w =
    (snap : WeakSnap) → snap.word ≢ ended.word → IsUnder snap v → IsUnder snap w

module _ {P V : Type 0} (fits : List ℕ → Type 0) (d : DomainState P) where
  -- the seat has taken its announcement back, or given its reference up
  abbrev pub GivesUp : Option ℕ → SlotId → SeatState V → SeatState V → Type 0
  GivesUp None s old new = DropsStrong fits d s old new
  GivesUp (Some j) s old new =
      Becomes fits d same_view IsSameView (move (act.Release j) outcome.Plain ∷ [])
      (with_note j note.Idle old.view.core) old new

  abbrev pub Ends : WeakSnap → SeatState V → SeatState V → Type 0
  Ends snap old new = GivesUp snap.word snap.slot old new
