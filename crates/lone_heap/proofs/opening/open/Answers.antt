use Rattle.std.proofs.Common.{ℕ, List, Err, ap, sym, ◌∙◌, arith}
use Rattle.std.specs.Prelude.{slice_index_or}
use Rattle.protected_loads.specs.acquire_retire.Seats.{SeatState}
use Rattle.lone_heap.proofs.Opened.{never_bad, opened_first, opened_for_one, seat_ready, seat_shown}
use Rattle.lone_heap.proofs.opening.open.Goals as goal

pub returns-clause-one : goal.returns-clause-one
returns-clause-one g c =
    opened_for_one c.in-Ok.opened.0 _ c.args.slots c.args.cells c.args.weak_cells
    c.in-Ok.ensures.domain

pub returns-clause-empty : goal.returns-clause-empty
returns-clause-empty g c =
    seat_shown (λ (n : ℕ). tt {0}) c.in-Ok.opened.0 _ c.args.slots c.args.cells c.args.weak_cells 4
    _ c.in-Ok.ensures.domain c.in-Ok.ensures.ranges c.remove-seat.result
    (c.remove-seat.ensures.value
    ∙ ap (λ (xs : List (SeatState (Unit {0}))). slice_index_or xs 0 c.remove-seat.result)
    c.in-Ok.ensures.seats)

pub returns-clause-noted : goal.returns-clause-noted
returns-clause-noted g c =
    ap (λ (s : SeatState (Unit {0})). s.view.core.notes)
    (opened_first (λ (n : ℕ). tt {0}) c.in-Ok.opened.0 _ c.args.slots c.args.cells c.args.weak_cells 4
    _ c.in-Ok.ensures.domain c.in-Ok.ensures.ranges c.remove-seat.result
    (c.remove-seat.ensures.value
    ∙ ap (λ (xs : List (SeatState (Unit {0}))). slice_index_or xs 0 c.remove-seat.result)
    c.in-Ok.ensures.seats))
    ∙ sym c.new-2.ensures

pub returns-clause-ready : goal.returns-clause-ready
returns-clause-ready g c =
    seat_ready (λ (n : ℕ). tt {0}) c.in-Ok.opened.0 _ c.args.slots c.args.cells c.args.weak_cells 4
    _ c.in-Ok.ensures.domain c.in-Ok.ensures.ranges c.remove-seat.result
    (c.remove-seat.ensures.value
    ∙ ap (λ (xs : List (SeatState (Unit {0}))). slice_index_or xs 0 c.remove-seat.result)
    c.in-Ok.ensures.seats)

pub returns-clause-trail : goal.returns-clause-trail
returns-clause-trail g c =
    ap (λ (s : SeatState (Unit {0})). s.view.core.trail)
    (opened_first (λ (n : ℕ). tt {0}) c.in-Ok.opened.0 _ c.args.slots c.args.cells c.args.weak_cells 4
    _ c.in-Ok.ensures.domain c.in-Ok.ensures.ranges c.remove-seat.result
    (c.remove-seat.ensures.value
    ∙ ap (λ (xs : List (SeatState (Unit {0}))). slice_index_or xs 0 c.remove-seat.result)
    c.in-Ok.ensures.seats))

pub unreachable-requires : goal.unreachable-requires
unreachable-requires g c =
    never_bad c.args.slots c.args.cells c.args.weak_cells c.requires.slots c.requires.cells
    c.requires.weak_cells _ (omega arith, omega arith) c.in-Err-BadShape._field
    ((c.open_domain.ensures.bad c.in-Err-BadShape._field).0
    (c.in-Err-BadShape.is ∙ ap Err c.in-Err-BadShape.field-0-is))
