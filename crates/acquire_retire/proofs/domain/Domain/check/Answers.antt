use Rattle.std.proofs.Common.{ap, ◌∙◌}
use Rattle.core_promises.specs.core_events.declared.act.Act.TheVariants as act
use Rattle.acquire_retire.specs.Seats.{SeatState}
use Rattle.acquire_retire.proofs.Calls.{can_step, seat_after}
use Rattle.acquire_retire.proofs.Contents.{found_small, check_on}
use Rattle.acquire_retire.proofs.Noting.{checked_kept}
use Rattle.acquire_retire.proofs.domain.Domain.check.Goals as goal

pub load_as-found-requires-clause-can : goal.load_as-found-requires-clause-can
load_as-found-requires-clause-can g c =
    can_step c.args.self.now _ _ (act.Check c.args.note c.args.place) c.seat.inside.seat c.args.seat.now
    c.seat.view_is c.seat.invariant.seated c.requires.seat tt c.requires.may (λ e. absurd (cc (e)))
    c.requires.deed

pub found_in-requires : goal.found_in-requires
found_in-requires g c =
    found_small c.args.self.now _ c.self.view_is _ c.self.invariant _ _
    (act.Check c.args.note c.args.place) c.seat.inside.seat _ _ c.load_as-found.ensures c.args.place
    (check_on _ c.args.note c.args.place)

pub invariant_of-seat : goal.invariant_of-seat
invariant_of-seat g c =
    let a = act.Check c.args.note c.args.place in
    let shape = ap (λ (s : SeatState _). s.view.core.shape) c.seat.view_is ∙ c.requires.seat.1 in
    seat_after c.args.self.now _ _ a c.seat.inside.seat c.load_as-found.new.seat
    c.load_as-found.result c.load_as-found.ensures (λ s. s) _ _ _ _ shape
    c.seat.invariant.stores c.seat.invariant.rooms
    (checked_kept c.args.self.now.shape c.args.note c.args.place c.load_as-found.result
    c.seat.inside.seat.me.0.core)

pub invariant_of-seat-2 : goal.invariant_of-seat-2
invariant_of-seat-2 g c =
    let a = act.Check c.args.note c.args.place in
    let shape = ap (λ (s : SeatState _). s.view.core.shape) c.seat.view_is ∙ c.requires.seat.1 in
    seat_after c.args.self.now _ _ a c.seat.inside.seat c.load_as-found.new.seat
    c.load_as-found.result c.load_as-found.ensures (λ s. s) _ _ _ _ shape
    c.seat.invariant.stores c.seat.invariant.rooms
    (checked_kept c.args.self.now.shape c.args.note c.args.place c.load_as-found.result
    c.seat.inside.seat.me.0.core)
