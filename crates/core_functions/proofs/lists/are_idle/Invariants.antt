use Rattle.std.proofs.Common.{◌≡◌, ℕ, ◌<◌, get_or}
use Rattle.core_events.specs.declared.view.Note.TheVariants as note
use Rattle.core_functions.proofs.lists.are_idle.Given as goal

abbrev pub invariant-loop-note : goal.invariant-loop-note
invariant-loop-note l =
    (k : ℕ) → k < l.note-index → get_or l.notes k note.Idle ≡ note.Idle
