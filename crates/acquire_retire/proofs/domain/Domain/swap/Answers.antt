use Rattle.core_promises.specs.core_events.declared.act.Act.TheVariants as act
use Rattle.acquire_retire.proofs.Calls.{can_step}
use Rattle.acquire_retire.proofs.Contents.{found_small, swap_on}
use Rattle.acquire_retire.proofs.domain.Domain.swap.Goals as goal

pub swap_as-found-requires-clause-can : goal.swap_as-found-requires-clause-can
swap_as-found-requires-clause-can g c =
    can_step c.args.self.now _ _ (act.Swap c.args.place c.args.new) c.seat.inside.seat c.args.seat.now
    c.seat.view_is c.seat.invariant.seated c.requires.seat tt c.requires.may (λ e. absurd (cc (e)))
    c.requires.deed

pub found_in-old-requires : goal.found_in-old-requires
found_in-old-requires g c =
    found_small c.args.self.now _ c.self.view_is _ c.self.invariant _ _
    (act.Swap c.args.place c.args.new) c.seat.inside.seat _ _ c.swap_as-found.ensures c.args.place
    (swap_on _ c.args.place c.args.new)
