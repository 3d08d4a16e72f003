use Rattle.core_functions.proofs.FirstBad as lemma
use Rattle.core_functions.proofs.laws.one_first_bad.Goals as goal

pub returns-clause-one : goal.returns-clause-one
returns-clause-one c = lemma.one_bad

pub returns-clause-none : goal.returns-clause-none
returns-clause-none c = lemma.none_bad
