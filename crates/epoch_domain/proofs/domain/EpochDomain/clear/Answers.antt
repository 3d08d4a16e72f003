use Rattle.std.proofs.Common.{refl, arith, ap, sym, ◌∙◌}
use Rattle.epoch_rule.specs.plain_protocol.plain_state.declared.act.EventPlace.TheVariants.{Field}
use Rattle.epoch_rule.specs.epoch_core.declared.act.EpochAct.TheVariants as act
use Rattle.epoch_rule.specs.epoch_core.declared.outcome.EpochOutcome.TheVariants as outcome
use Rattle.epoch_domain.specs.Exchanging.{phase_taking}
use Rattle.epoch_domain.specs.Seats.{SeatState, Stored, stored}
use Rattle.epoch_domain.proofs.Calls.{call_tells, seat_after}
use Rattle.epoch_domain.proofs.Contents.{clear_on, clear_stored, found_small}
use Rattle.epoch_domain.proofs.domain.EpochDomain.clear.Goals as goal

pub found_in-old-requires : goal.found_in-old-requires
found_in-old-requires g c =
    found_small c.args.self.now _ c.self.view_is _ c.self.invariant _ _ (act.Clear c.args.slot c.args.field)
    c.seat.inside.seat _ _ c.swap_as-found.ensures (Field c.args.slot c.args.field)
    (clear_on _ c.args.slot c.args.field)

pub invariant_of-seat : goal.invariant_of-seat
invariant_of-seat g c =
    let v = c.seat.inside.seat.me.0.core in
    let w = c.swap_as-found.result in
    let shape = ap (λ (s : SeatState _). s.view.core.shape) c.seat.view_is ∙ c.requires.seat.1 in
    let idle = ap (λ (s : SeatState _). s.view.core.phase) c.seat.view_is ∙ c.requires.may.0.0 in
    let phase_is = c.took-seat-inside.ensures ∙ ap phase_taking c.found_in-old.ensures in
    seat_after c.args.self.now _ _ (act.Clear c.args.slot c.args.field) c.seat.inside.seat c.swap_as-found.new.seat w
    c.swap_as-found.ensures _ _ _ _ shape c.seat.invariant.rooms refl refl
    (ap (λ (s : Stored). record s { phase = c.took-seat-inside.result }) c.seat.invariant.stores
    ∙ ((λ i. record (stored v) { phase = phase_is i }) ∙ sym (clear_stored c.args.self.now.shape v idle w c.args.slot c.args.field)))

pub returns : goal.returns
returns g c =
    call_tells c.args.self.now _ _ (act.Clear c.args.slot c.args.field) c.seat.inside.seat
    c.swap_as-found.new.seat c.swap_as-found.result c.swap_as-found.ensures _ _ c.args.seat.now
    c.seat.view_is _ (ap outcome.Found c.found_in-old.ensures) (omega arith)
