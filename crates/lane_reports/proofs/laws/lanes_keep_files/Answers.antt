use Rattle.lane_reports.proofs.Alike.{all_alike}
use Rattle.lane_reports.proofs.laws.lanes_keep_files.Goals as goal

pub returns : goal.returns
returns c = all_alike
