use Rattle.core_promises.proofs.Finds.{tells_truly}
use Rattle.core_promises.proofs.laws.answers_tell_truly.Goals as goal

pub returns : goal.returns
returns c = λ z c n a so on. tells_truly z c n so a on
