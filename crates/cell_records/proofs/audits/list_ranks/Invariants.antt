use Rattle.std.proofs.Common.{◌≡◌, length}
use Rattle.cell_records.proofs.audits.list_ranks.Given as goal

abbrev pub invariant-loop-slot : goal.invariant-loop-slot
invariant-loop-slot l = length l.ranks.items ≡ l.slot
