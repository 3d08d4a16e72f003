use Rattle.std.proofs.Common.{length}
use Rattle.script_law.proofs.Backwards.{tidied_alike}
use Rattle.script_law.proofs.Fresh.{own_name, own_names, states_own}
use Rattle.script_law.proofs.laws.tidying_has_one_end.Goals as goal

pub returns : goal.returns
returns c = record {
  one = λ p q r so seats tidies settled tidies' settled'.
      tidied_alike own_name own_name p p q r (own_names (length p.slots)) (states_own p) so so seats seats tidies settled tidies' settled';
  two = tidied_alike;
}
