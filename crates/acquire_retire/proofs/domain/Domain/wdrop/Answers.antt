use Rattle.std.proofs.Common.{rules}
use Rattle.core_promises.specs.core_events.declared.act.Act.TheVariants as act
use Rattle.acquire_retire.proofs.Calls.{call_tells, can_still}
use Rattle.acquire_retire.proofs.domain.Domain.wdrop.Goals as goal

pub fetch_sub_as-found-requires-clause-can : goal.fetch_sub_as-found-requires-clause-can
fetch_sub_as-found-requires-clause-can g c =
    can_still c.args.self.now _ (act.Wdrop c.args.slot) c.seat.inside.seat c.args.seat.now
    c.seat.view_is c.seat.invariant.seated c.requires.seat tt tt c.requires.may

pub returns : goal.returns
returns g c =
    call_tells c.args.self.now _ _ (act.Wdrop c.args.slot) c.seat.inside.seat c.fetch_sub_as-found.new.seat c.fetch_sub_as-found.result c.fetch_sub_as-found.ensures
    c.args.seat.now c.seat.view_is _ (search rules)
