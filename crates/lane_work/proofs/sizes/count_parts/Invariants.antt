use Rattle.std.proofs.Common.{◌≡◌}
use Rattle.std.specs.Prelude.{sum_by, take}
use Rattle.cdrc_text.specs.Text.{slots_of_word}
use Rattle.lane_work.specs.FilePieces.{pieces_in}
use Rattle.lane_work.proofs.sizes.count_parts.Given as goal

abbrev pub invariant-loop-number : goal.invariant-loop-number
invariant-loop-number l = l.parts ≡ sum_by slots_of_word (take l.number (pieces_in l.file))
