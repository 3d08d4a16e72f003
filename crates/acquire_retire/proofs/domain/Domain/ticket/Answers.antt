use Rattle.std.proofs.Common.{◌≡◌, ◌∙◌, ap, rules, slice_index_or}
use Rattle.core_promises.specs.core_events.declared.act.Act.TheVariants as act
use Rattle.acquire_retire.specs.Seats.{SeatState}
use Rattle.acquire_retire.proofs.Calls.{can_step}
use Rattle.acquire_retire.proofs.Drawing.{ticket_seat}
use Rattle.acquire_retire.proofs.domain.Domain.ticket.Goals as goal

pub fetch_add_as-found-requires-clause-can : goal.fetch_add_as-found-requires-clause-can
fetch_add_as-found-requires-clause-can g c =
    can_step c.args.self.now _ _ act.Ticket c.seat.inside.seat c.args.seat.now
    c.seat.view_is c.seat.invariant.seated c.requires.seat tt c.requires.may (λ e. absurd (cc (e)))
    c.requires.deed

pub invariant_of-seat : goal.invariant_of-seat
invariant_of-seat g c =
    let shape = ap (λ (s : SeatState _). s.view.core.shape) c.seat.view_is ∙ c.requires.seat.1 in
    let found = c.fetch_add_as-found.result in
    let more : c.granted_by.result ≡ slice_index_or c.self.inside.grants.items found 0 =
    search rules in
    ticket_seat c.args.self.now _ c.self.view_is _ c.self.invariant _ _ c.seat.inside.seat
    c.fetch_add_as-found.new.seat found c.fetch_add_as-found.ensures shape _ _ _ _
    c.seat.invariant c.granted_by.result more
