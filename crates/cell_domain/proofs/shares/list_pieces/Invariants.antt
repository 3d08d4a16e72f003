use Rattle.std.proofs.Common.{◌≡◌}
use Rattle.std.specs.Prelude.{length}
use Rattle.lane_work.specs.cdrc_text.Fold.{File}
use Rattle.cell_domain.proofs.Numbers.{numbers}
use Rattle.cell_domain.proofs.shares.list_pieces.Given as goal

abbrev pub invariant-loop-ticket : goal.invariant-loop-ticket
invariant-loop-ticket l = l.pieces.items ≡ numbers (λ (f : File). length f) l.work l.lanes l.ticket
