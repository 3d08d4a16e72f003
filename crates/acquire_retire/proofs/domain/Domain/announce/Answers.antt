use Rattle.std.proofs.Common.{refl, ap, ◌∙◌, Some}
use Rattle.core_promises.specs.core_events.declared.act.Act.TheVariants as act
use Rattle.acquire_retire.specs.Seats.{SeatState}
use Rattle.acquire_retire.proofs.Calls.{call_tells, can_still, seat_after}
use Rattle.acquire_retire.proofs.Noting.{announced_kept, announces}
use Rattle.acquire_retire.proofs.domain.Domain.announce.Goals as goal

pub store_as-requires-clause-can : goal.store_as-requires-clause-can
store_as-requires-clause-can g c =
    can_still c.args.self.now _ (act.Announce c.args.note c.args.kind c.args.slot) c.seat.inside.seat c.args.seat.now
    c.seat.view_is c.seat.invariant.seated c.requires.seat tt tt c.requires.may

pub returns : goal.returns
returns g c =
    call_tells c.args.self.now _ _ (act.Announce c.args.note c.args.kind c.args.slot) c.seat.inside.seat c.store_as.new.seat c.store_as.ensures.0 c.store_as.ensures.1
    c.args.seat.now c.seat.view_is _ refl

pub invariant_of-seat : goal.invariant_of-seat
invariant_of-seat g c =
    let a = act.Announce c.args.note c.args.kind c.args.slot in
    let shape = ap (λ (s : SeatState _). s.view.core.shape) c.seat.view_is ∙ c.requires.seat.1 in
    let found = c.store_as.ensures.0 in
    seat_after c.args.self.now _ _ a c.seat.inside.seat c.store_as.new.seat found
    c.store_as.ensures.1 (announces c.args.note (Some c.args.slot)) _ _ _ _ shape
    c.seat.invariant.stores c.seat.invariant.rooms
    (announced_kept c.args.self.now.shape c.args.note c.args.kind c.args.slot found
    c.seat.inside.seat.me.0.core)
