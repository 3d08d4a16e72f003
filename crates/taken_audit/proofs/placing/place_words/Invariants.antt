use Rattle.taken_audit.specs.Placed.{placed}
use Rattle.taken_audit.proofs.InPlace.{Done}
use Rattle.taken_audit.proofs.placing.place_words.Given as goal

abbrev pub invariant-loop-at : goal.invariant-loop-at
invariant-loop-at l = Done (placed l.taken) 0 l.fn.words l.at l.words
