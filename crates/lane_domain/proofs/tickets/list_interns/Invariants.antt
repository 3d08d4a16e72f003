use Rattle.std.proofs.Common.{◌≡◌}
use Rattle.std.specs.Prelude.{map}
use Rattle.std.specs.List.{range_with_len}
use Rattle.lane_domain.specs.Sizes.{interns_of}
use Rattle.lane_domain.proofs.tickets.list_interns.Given as goal

abbrev pub invariant-loop-ticket : goal.invariant-loop-ticket
invariant-loop-ticket l = l.interns.items ≡ map (interns_of l.work) (range_with_len 0 l.ticket)
