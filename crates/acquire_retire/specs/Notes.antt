-- Which of a seat's announcement words stands for nothing.
use Rattle.std.specs.Prelude.{ℕ, Bool, true, false, Option, Some, None, if◌then◌else◌}
use Rattle.core_promises.specs.core_events.declared.view.CoreView.{CoreView}
use Rattle.core_promises.specs.core_events.declared.view.Note.{Note}
use Rattle.core_promises.specs.core_events.declared.view.Note.TheVariants as note
use Rattle.core_promises.specs.core_events.Views.{note_of}

abbrev pub is_free : Note → Bool
is_free note.Idle = true
is_free (note.Announced k s) = false
is_free (note.Valid k s) = false

-- the least of the words 1 to 3 that stands for nothing
abbrev pub least_free : CoreView → Option ℕ
least_free v =
    if is_free (note_of v 1) then Some 1
    else if is_free (note_of v 2) then Some 2
    else if is_free (note_of v 3) then Some 3
    else None
