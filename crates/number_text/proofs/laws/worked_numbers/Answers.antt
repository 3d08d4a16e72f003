use Rattle.std.proofs.Common.{refl}
use Rattle.bstr.proofs.Computing.{computing}
use Rattle.cdrc_text.specs.Pieces.{fields_of}
use Rattle.number_text.specs.Numbers.{number_of}
use Rattle.number_text.proofs.laws.worked_numbers.Goals as goal

pub returns-clause-zeros : goal.returns-clause-zeros
unfolding number_of
returns-clause-zeros c = refl

pub returns-clause-plus : goal.returns-clause-plus
unfolding number_of
returns-clause-plus c = refl

pub returns-clause-greatest : goal.returns-clause-greatest
unfolding number_of
returns-clause-greatest c = refl

pub returns-clause-above : goal.returns-clause-above
unfolding number_of
returns-clause-above c = refl

pub returns-clause-long : goal.returns-clause-long
unfolding number_of
returns-clause-long c = refl

pub returns-clause-longer : goal.returns-clause-longer
unfolding number_of
returns-clause-longer c = refl

pub returns-clause-alone : goal.returns-clause-alone
unfolding number_of
returns-clause-alone c = refl

pub returns-clause-twice : goal.returns-clause-twice
unfolding number_of
returns-clause-twice c = refl

pub returns-clause-minus : goal.returns-clause-minus
unfolding number_of
returns-clause-minus c = refl

pub returns-clause-mixed : goal.returns-clause-mixed
unfolding number_of
returns-clause-mixed c = refl

pub returns-clause-bytes : goal.returns-clause-bytes
unfolding number_of
returns-clause-bytes c = refl

pub returns-clause-text : goal.returns-clause-text
unfolding computing fields_of number_of
returns-clause-text c = refl

pub returns-clause-skipped : goal.returns-clause-skipped
unfolding computing fields_of number_of
returns-clause-skipped c = refl
