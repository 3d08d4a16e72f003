use Rattle.std.proofs.Common.{◌≡◌}
use Rattle.std.specs.Prelude.{map}
use Rattle.std.specs.List.{range_with_len}
use Rattle.lane_domain.specs.Sizes.{makes_of}
use Rattle.lane_domain.proofs.tickets.list_makes.Given as goal

abbrev pub invariant-loop-ticket : goal.invariant-loop-ticket
invariant-loop-ticket l = l.makes.items ≡ map (makes_of l.work) (range_with_len 0 l.ticket)
