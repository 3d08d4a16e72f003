use Rattle.cell_rest.proofs.Left.{is_report}
use Rattle.cell_rest.proofs.written.what_is_left_is_the_report.Goals as goal

pub returns : goal.returns
returns c = is_report
