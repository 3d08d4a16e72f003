use Rattle.domain_audit.specs.acquire_retire.declared.errors.OpenError.TheVariants.{BadShape}
use Rattle.seat_life.proofs.Refused.{same_refusal}
use Rattle.seat_life.proofs.opening.open_seats.Goals as goal

pub returns-in-Err-clause-bad : goal.returns-in-Err-clause-bad
returns-in-Err-clause-bad g c f =
    let bad = c.in-Err.ensures.bad f in (
      λ is. bad.0 (same_refusal c.in-Err.error (BadShape f) is),
      λ first. same_refusal c.in-Err.error (BadShape f) (bad.1 first),
    )
