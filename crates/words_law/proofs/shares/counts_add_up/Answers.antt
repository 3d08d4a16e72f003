use Rattle.std.proofs.Common.{◌∙◌}
use Rattle.words_law.proofs.Taken.{taken_occurs, times_gathered}
use Rattle.words_law.specs.Fold.{taken_pieces}
use Rattle.words_law.proofs.shares.counts_add_up.Goals as goal

pub returns : goal.returns
returns c = record {
  taken = λ w taker seats rounds files each.
      times_gathered w (taken_pieces taker rounds files) seats
      ∙ taken_occurs w taker seats rounds files each;
  counted = times_gathered;
}
