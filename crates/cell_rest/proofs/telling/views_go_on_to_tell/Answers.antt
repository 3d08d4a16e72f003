use Rattle.cell_rest.proofs.Joining.{joined_comes, joined_stays, tells_both, tells_more}
use Rattle.cell_rest.proofs.telling.views_go_on_to_tell.Goals as goal

pub returns : goal.returns
returns c = record {
  more = tells_more;
  stays = joined_stays;
  comes = joined_comes;
  both = tells_both;
}
