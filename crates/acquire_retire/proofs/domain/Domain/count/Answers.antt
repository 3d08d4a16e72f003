use Rattle.core_promises.specs.core_events.declared.act.Act.TheVariants as act
use Rattle.acquire_retire.proofs.Calls.{can_step}
use Rattle.acquire_retire.proofs.domain.Domain.count.Goals as goal

pub load_as-found-requires-clause-can : goal.load_as-found-requires-clause-can
load_as-found-requires-clause-can g c =
    can_step c.args.self.now _ _ (act.Count c.args.slot) c.seat.inside.seat c.args.seat.now
    c.seat.view_is c.seat.invariant.seated c.requires.seat tt c.requires.may (λ e. absurd (cc (e)))
    c.requires.deed
