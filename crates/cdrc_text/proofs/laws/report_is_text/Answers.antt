use Rattle.cdrc_text.proofs.Reported.{text-report}
use Rattle.cdrc_text.proofs.laws.report_is_text.Goals as goal

pub returns : goal.returns
returns c = text-report
