use Rattle.std.proofs.Common.{refl}
use Rattle.script_law.proofs.Equal.{alike_on}
use Rattle.script_law.proofs.Fresh.{same_alike}
use Rattle.script_law.proofs.Running.{alike_desks_back}
use Rattle.script_law.proofs.laws.alike_is_an_equivalence.Goals as goal

pub returns : goal.returns
returns c = record {
  itself = λ d. same_alike d d refl refl refl (λ s. refl);
  back = alike_desks_back;
  on = alike_on;
}
