-- Where a decrement leads.
use Rattle.std.specs.Prelude.{ℕ, ◌==◌, if◌then◌else◌}
use Rattle.core_events.specs.plain_state.declared.slot.Kind.{Kind}
use Rattle.core_events.specs.plain_state.declared.slot.Kind.TheVariants.{Strong, Weak, Disposal}
use Rattle.core_events.specs.plain_state.declared.slot.SlotId.{SlotId}
use Rattle.core_events.specs.declared.view.Phase.{Phase}
use Rattle.core_events.specs.declared.view.Phase.TheVariants as phase

-- the phase of a seat whose decrement found w, where there is such a reference
abbrev pub phase_after : Kind → SlotId → ℕ → Phase
phase_after Strong s w = if w == 1 then phase.Finish s else phase.Idle
phase_after Weak s w = if w == 1 then phase.Give s else phase.Idle
phase_after Disposal s w = phase.Idle
