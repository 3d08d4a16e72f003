use Rattle.std.proofs.Common.{refl}
use Rattle.core_promises.specs.core_events.declared.act.Act.TheVariants as act
use Rattle.acquire_retire.proofs.Calls.{call_tells, can_still}
use Rattle.acquire_retire.proofs.domain.Domain.free.Goals as goal

pub fetch_add_as-requires-clause-can : goal.fetch_add_as-requires-clause-can
fetch_add_as-requires-clause-can g c =
    can_still c.args.self.now _ act.Free c.seat.inside.seat c.args.seat.now
    c.seat.view_is c.seat.invariant.seated c.requires.seat tt tt c.requires.may

pub returns : goal.returns
returns g c =
    call_tells c.args.self.now _ _ act.Free c.seat.inside.seat c.fetch_add_as.new.seat c.fetch_add_as.result c.fetch_add_as.ensures
    c.args.seat.now c.seat.view_is _ refl
