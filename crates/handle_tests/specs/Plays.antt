-- What a seat has before and after each act of a script, and when it is as one that was just opened.
use Rattle.std.specs.Prelude.{ℕ, ◌≡◌, ◌<◌, ◌≤◌, List, Some, slice_index_or}
use Rattle.control_word.specs.plain_state.declared.slot.SlotId.{SlotId}
use Rattle.control_word.specs.plain_state.Lists.{times}
use Rattle.control_word.specs.plain_state.declared.slot.Kind.TheVariants.{Strong}
use Rattle.control_word.specs.core_events.declared.view.Note.{Note}
use Rattle.control_word.specs.core_events.declared.view.Note.TheVariants as note
use Rattle.control_word.specs.core_events.Steps.{HasRoom}
use Rattle.control_word.specs.acquire_retire.Domains.{DomainState}
use Rattle.control_word.specs.acquire_retire.Seats.{SeatState}
use Rattle.control_word.specs.Resting.{IsAtRest, IsUnderNone}
use Rattle.snapshot_ptr.specs.Handles.{Snap}

-- each slot stands at most as often in the one list as in the other
abbrev pub IsWithin : List SlotId → List SlotId → Type 0
IsWithin xs ys = (s : SlotId) → times s xs ≤ times s ys

-- the seat is in no call, has room for what a store retires, and owns what is listed
pub record Plays {P V : Type 0} (d : DomainState P) (s : SeatState V) (strongs weaks : List SlotId)
    : Type 0 where
  pub rest : IsAtRest d s
  pub room : HasRoom s.view.core
  pub strong : IsWithin strongs s.view.core.owned
  pub weak : IsWithin weaks s.view.core.weaks

-- it is in no call, under no snapshot, and has room
pub record IsFree {P V : Type 0} (d : DomainState P) (s : SeatState V) : Type 0 where
  pub rest : IsAtRest d s
  pub none : IsUnderNone s.view.core
  pub room : HasRoom s.view.core

-- one of the words 1 to 3 stands for this snapshot, which isn't counted
abbrev pub IsUnderNow : Snap → List Note → Type 0
IsUnderNow snap notes =
    (j : ℕ) × (snap.word ≡ Some j) × (0 < j) × (j < 4)
    × (slice_index_or notes j note.Idle ≡ note.Valid Strong snap.slot)
