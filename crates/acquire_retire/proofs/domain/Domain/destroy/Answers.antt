use Rattle.std.proofs.Common.{refl, rules}
use Rattle.core_promises.specs.core_events.declared.act.Act.TheVariants as act
use Rattle.acquire_retire.proofs.Calls.{call_tells, can_still}
use Rattle.acquire_retire.proofs.Dying.{seat_destroyed}
use Rattle.acquire_retire.proofs.domain.Domain.destroy.Goals as goal

pub fetch_sub_as-found-requires-clause-can : goal.fetch_sub_as-found-requires-clause-can
fetch_sub_as-found-requires-clause-can g c =
    can_still c.args.self.now _ (act.Destroy c.args.slot) c.seat.inside.seat c.args.seat.now
    c.seat.view_is c.seat.invariant.seated c.requires.seat c.requires.cleared tt c.requires.may

pub returns : goal.returns
returns g c =
    call_tells c.args.self.now _ _ (act.Destroy c.args.slot) c.seat.inside.seat c.fetch_sub_as-found.new.seat c.fetch_sub_as-found.result c.fetch_sub_as-found.ensures
    c.args.seat.now c.seat.view_is _ (search rules)

pub invariant_of-seat : goal.invariant_of-seat
invariant_of-seat g c =
    let can = can_still c.args.self.now g.P.Kind.PayloadKind.fits (act.Destroy c.args.slot)
    c.seat.inside.seat c.args.seat.now c.seat.view_is c.seat.invariant.seated c.requires.seat
    c.requires.cleared tt c.requires.may in
    rw (c.take.ensures, c.given_up-phase.ensures.phase)
    (seat_destroyed c.args.self.now _ c.self.view_is _ c.self.invariant _ _
    (act.Destroy c.args.slot) c.seat.inside.seat c.fetch_sub_as-found.new.seat _
    c.fetch_sub_as-found.ensures can.own _ _ _ _ c.seat.invariant can.shape c.args.slot refl
    can.may.1)
