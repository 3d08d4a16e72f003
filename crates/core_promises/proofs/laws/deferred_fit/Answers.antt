use Rattle.core_promises.proofs.Deferred.{fits}
use Rattle.core_promises.proofs.laws.deferred_fit.Goals as goal

pub returns : goal.returns
returns c = fits
