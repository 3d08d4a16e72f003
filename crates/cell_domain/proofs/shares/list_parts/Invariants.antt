use Rattle.std.proofs.Common.{◌≡◌}
use Rattle.lane_work.specs.Sizes.{slots_of_words}
use Rattle.cell_domain.proofs.Numbers.{numbers}
use Rattle.cell_domain.proofs.shares.list_parts.Given as goal

abbrev pub invariant-loop-ticket : goal.invariant-loop-ticket
invariant-loop-ticket l = l.parts.items ≡ numbers slots_of_words l.work l.lanes l.ticket
