use Rattle.core_promises.specs.core_events.declared.act.Act.TheVariants as act
use Rattle.acquire_retire.proofs.Calls.{can_step}
use Rattle.acquire_retire.proofs.domain.Domain.mark.Goals as goal

pub compare_exchange_as-found-requires-clause-can : goal.compare_exchange_as-found-requires-clause-can
compare_exchange_as-found-requires-clause-can g c =
    can_step c.args.self.now _ _ act.Mark c.seat.inside.seat c.args.seat.now
    c.seat.view_is c.seat.invariant.seated c.requires.seat tt c.requires.may (λ e. absurd (cc (e)))
    c.requires.deed
