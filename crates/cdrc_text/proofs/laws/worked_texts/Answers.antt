use Rattle.std.proofs.Common.{refl}
use Rattle.std.specs.Fmt.{digits}
use Rattle.bstr.proofs.Computing.{computing}
use Rattle.cdrc_text.specs.Pieces.{cut, fields_of, pieces_of}
use Rattle.cdrc_text.proofs.laws.worked_texts.Goals as goal

pub returns-clause-one : goal.returns-clause-one
unfolding computing digits pieces_of fields_of cut
returns-clause-one c = refl

pub returns-clause-twice : goal.returns-clause-twice
unfolding computing digits pieces_of fields_of cut
returns-clause-twice c = refl

pub returns-clause-rounds : goal.returns-clause-rounds
unfolding computing digits pieces_of fields_of cut
returns-clause-rounds c = refl

pub returns-clause-parts : goal.returns-clause-parts
unfolding digits
returns-clause-parts c = refl
