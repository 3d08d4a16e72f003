use Rattle.std.proofs.Common.{◌≡◌}
use Rattle.lane_work.specs.Sizes.{slots_of_words}
use Rattle.lane_work.proofs.Sums.{of_tickets}
use Rattle.lane_work.proofs.sizes.count_slots.Given as goal

abbrev pub invariant-loop-ticket : goal.invariant-loop-ticket
invariant-loop-ticket l = l.parts ≡ of_tickets slots_of_words l.work l.ticket
