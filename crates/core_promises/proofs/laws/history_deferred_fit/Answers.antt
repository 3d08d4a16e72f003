use Rattle.core_promises.proofs.Deferred.{history_fits}
use Rattle.core_promises.proofs.laws.history_deferred_fit.Goals as goal

pub returns : goal.returns
returns c = history_fits
