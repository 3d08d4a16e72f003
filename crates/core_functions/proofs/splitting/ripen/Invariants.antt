use Rattle.std.proofs.Common.{◌≡◌, ◌++◌, length, take, vec_capacity}
use Rattle.std.specs.List.{filter}
use Rattle.eject_scan.specs.Seen.{announced}
use Rattle.core_events.specs.plain_state.Ejection.{ripens}
use Rattle.core_functions.proofs.splitting.ripen.Given as goal

abbrev pub invariant-loop-slot : goal.invariant-loop-slot
invariant-loop-slot l =
    (l.ripe.items ≡ l.initial.ripe.items
    ++ filter (ripens l.initial.ripe.items (announced l.seen.rows))
    (take l.slot-index l.dying))
    × (l.were ≡ length l.initial.ripe.items) × (vec_capacity l.ripe ≡ vec_capacity l.initial.ripe)
