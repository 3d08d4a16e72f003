use Rattle.core_promises.proofs.Destroys.{destroyed_once}
use Rattle.core_promises.proofs.laws.destroyed_once.Goals as goal

pub returns : goal.returns
returns c = λ z ts es c s shape terms h hs. destroyed_once z s hs ts es c shape terms h
