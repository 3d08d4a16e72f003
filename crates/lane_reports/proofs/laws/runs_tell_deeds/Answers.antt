use Rattle.lane_reports.proofs.Told.{did_by_run}
use Rattle.lane_reports.proofs.laws.runs_tell_deeds.Goals as goal

pub returns : goal.returns
returns c = did_by_run
