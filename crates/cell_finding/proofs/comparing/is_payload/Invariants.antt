use Rattle.cell_finding.proofs.Compared.{SameSoFar}
use Rattle.cell_finding.proofs.comparing.is_payload.Given as goal

abbrev pub invariant-loop-word : goal.invariant-loop-word
invariant-loop-word g l =
    SameSoFar g.P.Kind.PayloadKind.fits l.domain l.slot l.word l.payload l.fn.seat l.seat
