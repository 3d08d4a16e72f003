use Rattle.core_promises.specs.core_events.declared.act.Act.TheVariants as act
use Rattle.acquire_retire.proofs.Calls.{can_step}
use Rattle.acquire_retire.proofs.domain.Domain.add.Goals as goal

pub fetch_add_as-found-requires-clause-can : goal.fetch_add_as-found-requires-clause-can
fetch_add_as-found-requires-clause-can g c =
    can_step c.args.self.now _ _ (act.Add c.args.slot) c.seat.inside.seat c.args.seat.now
    c.seat.view_is c.seat.invariant.seated c.requires.seat tt c.requires.may (λ e. absurd (cc (e)))
    c.requires.deed
