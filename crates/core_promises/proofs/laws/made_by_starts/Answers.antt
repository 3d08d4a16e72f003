use Rattle.core_promises.proofs.MadeAlways.{made_by_starts}
use Rattle.core_promises.proofs.laws.made_by_starts.Goals as goal

pub returns : goal.returns
returns c = made_by_starts
