use Rattle.plain_audit.specs.plain_state.declared.slot.Kind.TheVariants.{Strong}
use Rattle.plain_audit.specs.heap_audit.Heaps.{slot}
use Rattle.taken_audit.specs.Placed.{placed_entry}
use Rattle.taken_audit.proofs.InPlace.{Done}
use Rattle.taken_audit.proofs.placing.place_entries.Given as goal

abbrev pub invariant-loop-at : goal.invariant-loop-at
invariant-loop-at l = Done (placed_entry l.taken) (Strong, slot 0) l.fn.entries l.at l.entries
