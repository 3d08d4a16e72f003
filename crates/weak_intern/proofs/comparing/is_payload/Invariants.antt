use Rattle.weak_intern.proofs.Compared.{Same}
use Rattle.weak_intern.proofs.comparing.is_payload.Given as goal

abbrev pub invariant-loop-word : goal.invariant-loop-word
invariant-loop-word g l = Same l.domain l.slot l.word l.payload l.fn.seat l.seat
