use Rattle.core_promises.proofs.Always.{always_lawful}
use Rattle.core_promises.proofs.laws.always_lawful.Goals as goal

pub returns : goal.returns
returns c = always_lawful
