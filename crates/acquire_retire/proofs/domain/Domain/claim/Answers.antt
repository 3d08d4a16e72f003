use Rattle.std.proofs.Common.{◌+◌, ◌^◌, ◌<◌, rules}
use Rattle.core_promises.specs.core_events.declared.act.Act.TheVariants as act
use Rattle.acquire_retire.proofs.Calls.{call_tells, can_still}
use Rattle.acquire_retire.proofs.Granted.{claims_few}
use Rattle.acquire_retire.proofs.domain.Domain.claim.Goals as goal

pub fetch_and_as-found-requires-clause-can : goal.fetch_and_as-found-requires-clause-can
fetch_and_as-found-requires-clause-can g c =
    can_still c.args.self.now _ (act.Claim c.args.slot) c.seat.inside.seat c.args.seat.now
    c.seat.view_is c.seat.invariant.seated c.requires.seat tt tt c.requires.may

pub returns-then-has_bit : goal.returns-then-has_bit
returns-then-has_bit g c =
    call_tells c.args.self.now _ _ (act.Claim c.args.slot) c.seat.inside.seat c.fetch_and_as-found.new.seat c.fetch_and_as-found.result c.fetch_and_as-found.ensures
    c.args.seat.now c.seat.view_is _ (search rules)

pub returns : goal.returns
returns g c =
    call_tells c.args.self.now _ _ (act.Claim c.args.slot) c.seat.inside.seat c.fetch_and_as-found.new.seat c.fetch_and_as-found.result c.fetch_and_as-found.ensures
    c.args.seat.now c.seat.view_is _ (search rules)

pub overflow_add-seat : goal.overflow_add-seat
overflow_add-seat g c =
    let small : c.seat.inside.makes + 1 < 2 ^ 64 = claims_few c.args.self.now _ _ c.args.slot
    c.seat.inside.seat c.fetch_and_as-found.new.seat _ c.fetch_and_as-found.ensures _ _ _ _
    c.seat.invariant in
    search rules
