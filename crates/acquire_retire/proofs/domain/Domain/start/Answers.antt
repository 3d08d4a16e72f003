use Rattle.core_promises.specs.core_events.declared.act.Act.TheVariants as act
use Rattle.acquire_retire.proofs.Calls.{can_step}
use Rattle.acquire_retire.proofs.domain.Domain.start.Goals as goal

pub store_as-requires-clause-can : goal.store_as-requires-clause-can
store_as-requires-clause-can g c =
    can_step c.args.self.now _ _ act.Start c.seat.inside.seat c.args.seat.now
    c.seat.view_is c.seat.invariant.seated c.requires.seat tt c.requires.may (λ _. c.requires.fits)
    c.requires.deed
