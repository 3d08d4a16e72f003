-- The references that a change answers.
use Rattle.std.specs.Prelude.{ℕ, Result, Ok, Err}
use Rattle.map_law.specs.plain_state.declared.slot.SlotId.{SlotId}
use Rattle.version_making.specs.Keeping.{of_handle}
use Rattle.version_changes.specs.declared.outcome.ChangeError.{ChangeError}
use Rattle.version_changes.specs.declared.outcome.Changed.{Changed}
use Rattle.version_changes.specs.declared.outcome.Least.{Least}

-- how many of them are to x
abbrev pub of_changed : Result Changed ChangeError → SlotId → ℕ
of_changed (Ok changed) x = of_handle changed.tree x
of_changed (Err error) x = 0

abbrev pub of_least : Result Least ChangeError → SlotId → ℕ
of_least (Ok least) x = of_handle least.rest x
of_least (Err error) x = 0
