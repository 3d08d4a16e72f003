use Rattle.core_promises.proofs.Finds.{never_wraps}
use Rattle.core_promises.proofs.laws.never_wraps.Goals as goal

pub returns : goal.returns
returns c = λ z c n a so on. never_wraps z c n so a on
