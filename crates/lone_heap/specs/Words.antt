-- What the announcement words of a seat protect, as its notes say it.
use Rattle.std.specs.Prelude.{◌≡◌, List, [], ◌∷◌, Option, Some, None}
use Rattle.protected_loads.specs.plain_state.declared.slot.Kind.TheVariants.{Strong}
use Rattle.protected_loads.specs.plain_state.declared.slot.SlotId.{SlotId}
use Rattle.protected_loads.specs.core_events.declared.view.Note.{Note}
use Rattle.protected_loads.specs.core_events.declared.view.Note.TheVariants as note
use Rattle.protected_loads.specs.acquire_retire.Seats.{SeatState}
use Rattle.lone_heap.specs.declared.words.Words.{Words}

abbrev pub note_for : Option SlotId → Note
note_for None = note.Idle
note_for (Some s) = note.Valid Strong s

abbrev pub notes_for : Words → List Note
notes_for w = note.Idle ∷ note_for w.first ∷ note_for w.second ∷ note_for w.third ∷ []

-- the seat is under just the snapshots that these words protect
abbrev pub AreNoted : {V : Type 0} → Words → SeatState V → Type 0
AreNoted words s = s.view.core.notes ≡ notes_for words
