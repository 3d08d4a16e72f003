use Rattle.record_counts.proofs.Reported.{rows_report}
use Rattle.record_counts.proofs.rows.counted_rows_are_the_report.Goals as goal

pub returns : goal.returns
returns c = rows_report
