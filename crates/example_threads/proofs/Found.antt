-- The announcement words of a seat that has found a value.
use Rattle.std.proofs.Common.{◌≡◌, List, Option, Some, ap, ◌∙◌}
use Rattle.std.specs.Prelude.{Err, IfOk, Ok, Result}
use Rattle.std.specs.Result.{result_ok}
use Rattle.cdrc.specs.core_events.declared.view.Note.{Note}
use Rattle.cdrc.specs.counted_handles.declared.refusal.LoadError.{LoadError}
use Rattle.cdrc.specs.snapshot_ptr.Handles.{Snap, notes_with}

pub notes_found : (r : Result (Option Snap) LoadError) (snap : Snap) (old new : List Note)
    → result_ok r ≡ Some (Some snap) → IfOk r (λ found. new ≡ notes_with found old)
    → new ≡ notes_with (Some snap) old
notes_found (Ok found) snap old new is took =
    let same : found ≡ Some snap = cc (is) in took ∙ ap (λ o. notes_with o old) same
notes_found (Err e) snap old new is took = absurd (cc (is))
