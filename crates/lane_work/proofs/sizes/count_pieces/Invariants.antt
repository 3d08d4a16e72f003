use Rattle.std.proofs.Common.{◌≡◌}
use Rattle.std.specs.Prelude.{length}
use Rattle.cdrc_text.specs.Fold.{File}
use Rattle.lane_work.proofs.Sums.{of_tickets}
use Rattle.lane_work.proofs.sizes.count_pieces.Given as goal

abbrev pub invariant-loop-ticket : goal.invariant-loop-ticket
invariant-loop-ticket l = l.pieces ≡ of_tickets (λ (f : File). length f) l.work l.ticket
