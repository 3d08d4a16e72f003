-- When a seat is in no call, and when it may use no add.
use Rattle.std.specs.Prelude.{ℕ, ◌≡◌, List, [], Option, Some, None, slice_set}
use Rattle.acquire_retire.specs.core_events.declared.view.CoreView.{CoreView}
use Rattle.acquire_retire.specs.core_events.declared.view.Note.{Note}
use Rattle.acquire_retire.specs.core_events.declared.view.Note.TheVariants as note
use Rattle.acquire_retire.specs.core_events.Steps.{IsIdle}
use Rattle.acquire_retire.specs.core_events.Views.{note_of}
use Rattle.acquire_retire.specs.Calls.{IsOf}
use Rattle.acquire_retire.specs.Domains.{DomainState}
use Rattle.acquire_retire.specs.Seats.{SeatState}

-- the note stands for nothing, or for a snapshot
abbrev pub IsSettled : Note → Type 0
IsSettled note.Idle = Unit {0}
IsSettled (note.Announced k s) = ⊥
IsSettled (note.Valid k s) = Unit {0}

-- The seat is one of the domain's, and in no call: it is in the middle of nothing and owes nothing,
-- its first note stands for nothing, and the others stand for nothing or for a snapshot.
pub record IsAtRest {P V : Type 0} (d : DomainState P) (s : SeatState V) : Type 0 where
  pub of_domain : IsOf d s
  pub idle : IsIdle s.view.core
  pub owes_nothing : s.view.core.owed ≡ []
  pub first : note_of s.view.core 0 ≡ note.Idle
  pub others : (j : ℕ) → IsSettled (note_of s.view.core j)

-- the seat has used all adds of its quota
abbrev pub IsSpent : CoreView → Type 0
IsSpent v = v.adds ≡ v.quota.adds

-- the seat announces nothing, and is under no snapshot
abbrev pub IsUnderNone : CoreView → Type 0
IsUnderNone v = (j : ℕ) → note_of v j ≡ note.Idle

-- the notes of a seat in which one stands for something else by now, if there is one
abbrev pub noted : Option ℕ → Note → List Note → List Note
noted None n ns = ns
noted (Some j) n ns = slice_set ns j n
