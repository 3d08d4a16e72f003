use Rattle.cell_finding.proofs.Past.{past_walked}
use Rattle.cell_finding.proofs.Walking.{walk_begins, walk_kept}
use Rattle.cell_finding.proofs.laws.walks_stay_over_calls.Goals as goal

pub returns : goal.returns
returns c = record {
  begins = walk_begins;
  stays = walk_kept;
  walked = λ d text passed seat walk. past_walked d text passed seat walk.walked;
}
