use Rattle.core_promises.proofs.Always.{history_lawful}
use Rattle.core_promises.proofs.laws.history_lawful.Goals as goal

pub returns : goal.returns
returns c = history_lawful
