use Rattle.std.proofs.Common.{ap, ◌∙◌}
use Rattle.core_promises.specs.core_events.declared.act.Act.TheVariants as act
use Rattle.acquire_retire.specs.Seats.{SeatState}
use Rattle.acquire_retire.proofs.Calls.{can_step, seat_after}
use Rattle.acquire_retire.proofs.Noting.{alive_kept}
use Rattle.acquire_retire.proofs.domain.Domain.alive.Goals as goal

pub load_as-found-requires-clause-can : goal.load_as-found-requires-clause-can
load_as-found-requires-clause-can g c =
    can_step c.args.self.now _ _ (act.Alive c.args.note) c.seat.inside.seat c.args.seat.now
    c.seat.view_is c.seat.invariant.seated c.requires.seat tt c.requires.may (λ e. absurd (cc (e)))
    c.requires.deed

pub invariant_of-seat : goal.invariant_of-seat
invariant_of-seat g c =
    let a = act.Alive c.args.note in
    let shape = ap (λ (s : SeatState _). s.view.core.shape) c.seat.view_is ∙ c.requires.seat.1 in
    seat_after c.args.self.now _ _ a c.seat.inside.seat c.load_as-found.new.seat
    c.load_as-found.result c.load_as-found.ensures (λ s. s) _ _ _ _ shape
    c.seat.invariant.stores c.seat.invariant.rooms
    (alive_kept c.args.self.now.shape c.args.note c.load_as-found.result
    c.seat.inside.seat.me.0.core)
