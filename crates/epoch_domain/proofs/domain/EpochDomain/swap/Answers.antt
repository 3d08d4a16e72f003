use Rattle.std.proofs.Common.{refl, ap, sym, ◌∙◌}
use Rattle.epoch_rule.specs.epoch_core.declared.act.EpochAct.TheVariants as act
use Rattle.epoch_domain.specs.Exchanging.{phase_taking}
use Rattle.epoch_domain.specs.Seats.{SeatState, Stored, stored}
use Rattle.epoch_domain.proofs.Calls.{can_step, seat_after}
use Rattle.epoch_domain.proofs.Contents.{found_small, swap_on, swap_stored}
use Rattle.epoch_domain.proofs.domain.EpochDomain.swap.Goals as goal

pub swap_as-found-requires-clause-can : goal.swap_as-found-requires-clause-can
swap_as-found-requires-clause-can g c =
    can_step c.args.self.now _ _ (act.Swap c.args.place c.args.new) c.seat.inside.seat _ c.args.seat.now c.seat.view_is
    c.seat.invariant.seated c.requires.seat tt c.requires.may (λ e. absurd (cc (e)))
    c.requires.deed

pub found_in-old-requires : goal.found_in-old-requires
found_in-old-requires g c =
    found_small c.args.self.now _ c.self.view_is _ c.self.invariant _ _ (act.Swap c.args.place c.args.new) c.seat.inside.seat
    _ _ c.swap_as-found.ensures c.args.place (swap_on _ c.args.place c.args.new)

pub invariant_of-seat : goal.invariant_of-seat
invariant_of-seat g c =
    let v = c.seat.inside.seat.me.0.core in
    let w = c.swap_as-found.result in
    let shape = ap (λ (s : SeatState _). s.view.core.shape) c.seat.view_is ∙ c.requires.seat.1 in
    let idle = ap (λ (s : SeatState _). s.view.core.phase) c.seat.view_is ∙ c.requires.may.0.0 in
    let phase_is = c.took-seat-inside.ensures ∙ ap phase_taking c.found_in-old.ensures in
    seat_after c.args.self.now _ _ (act.Swap c.args.place c.args.new) c.seat.inside.seat c.swap_as-found.new.seat w
    c.swap_as-found.ensures _ _ _ _ shape c.seat.invariant.rooms refl refl
    (ap (λ (s : Stored). record s { phase = c.took-seat-inside.result }) c.seat.invariant.stores
    ∙ ((λ i. record (stored v) { phase = phase_is i }) ∙ sym (swap_stored c.args.self.now.shape v idle w c.args.place c.args.new)))
