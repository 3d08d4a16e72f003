use Rattle.core_law.proofs.Parts.{sound_good}
use Rattle.core_promises.proofs.Granted.{seat_granted}
use Rattle.core_promises.proofs.laws.grants_fit.Goals as goal

pub returns : goal.returns
returns c = λ z d n so hn. seat_granted z d n (sound_good z d so).tickets hn
