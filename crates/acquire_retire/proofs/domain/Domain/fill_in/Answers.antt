use Rattle.std.proofs.Common.{refl}
use Rattle.core_promises.specs.core_events.declared.act.Act.TheVariants as act
use Rattle.acquire_retire.proofs.Calls.{call_tells, can_still}
use Rattle.acquire_retire.proofs.domain.Domain.fill_in.Goals as goal

pub store_as-requires-clause-can : goal.store_as-requires-clause-can
store_as-requires-clause-can g c =
    can_still c.args.self.now _ (act.Fill c.args.index c.args.word) c.seat.inside.seat c.args.seat.now
    c.seat.view_is c.seat.invariant.seated c.requires.seat tt tt c.requires.may

pub returns : goal.returns
returns g c =
    call_tells c.args.self.now _ _ (act.Fill c.args.index c.args.word) c.seat.inside.seat c.store_as.new.seat c.store_as.ensures.0 c.store_as.ensures.1
    c.args.seat.now c.seat.view_is _ refl
