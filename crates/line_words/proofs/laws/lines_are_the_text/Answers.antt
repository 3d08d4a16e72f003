use Rattle.line_words.proofs.Joining.{All-lines_of, joined-lines_of}
use Rattle.line_words.proofs.laws.lines_are_the_text.Goals as goal

pub returns-clause-no_line_feed : goal.returns-clause-no_line_feed
returns-clause-no_line_feed c = All-lines_of

pub returns-clause-joined : goal.returns-clause-joined
returns-clause-joined c = joined-lines_of
