use Rattle.std.proofs.Common.{refl}
use Rattle.core_promises.specs.core_events.declared.act.Act.TheVariants as act
use Rattle.acquire_retire.proofs.Calls.{call_tells, can_still}
use Rattle.acquire_retire.proofs.domain.Domain.wcount.Goals as goal

pub load_as-found-requires-clause-can : goal.load_as-found-requires-clause-can
load_as-found-requires-clause-can g c =
    can_still c.args.self.now _ (act.Wcount c.args.slot) c.seat.inside.seat c.args.seat.now
    c.seat.view_is c.seat.invariant.seated c.requires.seat tt tt c.requires.may

pub returns : goal.returns
returns g c =
    call_tells c.args.self.now _ _ (act.Wcount c.args.slot) c.seat.inside.seat c.load_as-found.new.seat c.load_as-found.result c.load_as-found.ensures
    c.args.seat.now c.seat.view_is _ refl
