use Rattle.std.proofs.Common.{take}
use Rattle.lane_reports.specs.Holders.{AreSlotsOf, has}
use Rattle.lane_reports.proofs.held.mark_slots.Given as goal

-- the marks are those of the first references' slots
abbrev pub invariant-loop-handle : goal.invariant-loop-handle
invariant-loop-handle l = AreSlotsOf (take l.handle-index l.kept) (has l.held.items)
