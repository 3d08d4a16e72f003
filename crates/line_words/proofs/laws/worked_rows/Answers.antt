use Rattle.std.proofs.Common.{refl}
use Rattle.std.specs.Fmt.{digits}
use Rattle.bstr.proofs.Computing.{computing}
use Rattle.cdrc_text.specs.Pieces.{fields_of}
use Rattle.line_words.specs.Lines.{lines_of}
use Rattle.line_words.specs.Number.{value_of}
use Rattle.line_words.proofs.laws.worked_rows.Goals as goal

pub returns-clause-lines : goal.returns-clause-lines
unfolding lines_of
returns-clause-lines c = refl

pub returns-clause-last : goal.returns-clause-last
unfolding lines_of
returns-clause-last c = refl

pub returns-clause-empty : goal.returns-clause-empty
unfolding lines_of
returns-clause-empty c = refl

pub returns-clause-words : goal.returns-clause-words
unfolding computing fields_of
returns-clause-words c = refl

pub returns-clause-blank : goal.returns-clause-blank
unfolding computing fields_of
returns-clause-blank c = refl

pub returns-clause-digits : goal.returns-clause-digits
unfolding value_of
returns-clause-digits c = refl

pub returns-clause-name : goal.returns-clause-name
unfolding digits
returns-clause-name c = refl

pub returns-clause-not_enabled : goal.returns-clause-not_enabled
unfolding digits
returns-clause-not_enabled c = refl
