use Rattle.words_rest.proofs.Reported.{is_report}
use Rattle.words_rest.proofs.written.what_is_left_is_the_report.Goals as goal

pub returns : goal.returns
returns c u z p views lives files kept keeps left none all same small rounds rows slots at have =
    is_report u z p views lives files kept keeps left none all same small rounds rows slots at have
