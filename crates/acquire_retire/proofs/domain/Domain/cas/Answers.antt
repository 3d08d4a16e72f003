use Rattle.std.proofs.Common.{ap, sym, ◌∙◌}
use Rattle.plain_state.specs.Places.{place_kind}
use Rattle.plain_state.specs.Steps.{joined}
use Rattle.core_promises.specs.core_events.declared.act.Act.TheVariants as act
use Rattle.core_promises.specs.core_events.Words.{slot_in}
use Rattle.acquire_retire.specs.Seats.{SeatState, Stored}
use Rattle.acquire_retire.proofs.Calls.{can_step, cas_done, cas_lost, seat_after}
use Rattle.acquire_retire.proofs.Contents.{found_small, cas_on}
use Rattle.acquire_retire.proofs.domain.Domain.cas.Goals as goal

pub compare_exchange_as-found-requires-clause-can : goal.compare_exchange_as-found-requires-clause-can
compare_exchange_as-found-requires-clause-can g c =
    can_step c.args.self.now _ _ (act.Cas c.args.place c.args.old c.args.new) c.seat.inside.seat c.args.seat.now
    c.seat.view_is c.seat.invariant.seated c.requires.seat tt c.requires.may (λ e. absurd (cc (e)))
    c.requires.deed

pub found_in-held-requires : goal.found_in-held-requires
found_in-held-requires g c =
    found_small c.args.self.now _ c.self.view_is _ c.self.invariant _ _
    (act.Cas c.args.place c.args.old c.args.new) c.seat.inside.seat _ _ c.compare_exchange_as-found.ensures c.args.place
    (cas_on _ c.args.place c.args.old c.args.new)

pub invariant_of-seat : goal.invariant_of-seat
invariant_of-seat g c =
    let shape = ap (λ (s : SeatState _). s.view.core.shape) c.seat.view_is ∙ c.requires.seat.1 in
    seat_after c.args.self.now _ _ (act.Cas c.args.place c.args.old c.args.new) c.seat.inside.seat
    c.compare_exchange_as-found.new.seat c.compare_exchange_as-found.result
    c.compare_exchange_as-found.ensures (λ (s : Stored). s) _ _ _ _ shape
    c.seat.invariant.stores c.seat.invariant.rooms
    (cas_lost c.args.self.now.shape c.args.place c.args.old c.args.new
    c.compare_exchange_as-found.result c.seat.inside.seat.me.0.core
    (λ e. c.if-found-expected.true (e ∙ sym c.held_as-expected.ensures)))

pub invariant_of-seat-2 : goal.invariant_of-seat-2
invariant_of-seat-2 g c =
    let shape = ap (λ (s : SeatState _). s.view.core.shape) c.seat.view_is ∙ c.requires.seat.1 in
    let found = c.compare_exchange_as-found.result in
    rw (c.retire.ensures, c.kind_of.ensures, c.found_in-held.ensures)
    (seat_after c.args.self.now _ _ (act.Cas c.args.place c.args.old c.args.new)
    c.seat.inside.seat c.compare_exchange_as-found.new.seat found
    c.compare_exchange_as-found.ensures
    (λ (s : Stored). record s {
      retired = joined (place_kind c.args.place) (slot_in found) s.retired;
    }) _ _ _ _ shape c.seat.invariant.stores c.seat.invariant.rooms
    (cas_done c.args.self.now.shape c.args.place c.args.old c.args.new found
    c.seat.inside.seat.me.0.core (c.if-found-expected.false ∙ c.held_as-expected.ensures)))
