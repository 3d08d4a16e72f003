use Rattle.std.proofs.Common.{◌<◌, refl, sym, ap, subst, ◌∙◌}
use Rattle.std.specs.Prelude.{IfSome}
use Rattle.plain_state.specs.Lists.{times}
use Rattle.acquire_retire.specs.Seats.{SeatState}
use Rattle.acquire_retire.proofs.Dying.{all_waiting, first_found, ripe_dying, stands_in}
use Rattle.acquire_retire.proofs.domain.Domain.next_dying.Goals as goal

pub returns-in-Some-clause-dying : goal.returns-in-Some-clause-dying
returns-in-Some-clause-dying g c =
    let e = c.in-Some.ensures {u = tt} in
    subst (λ (z : SeatState _). 0 < times c.in-Some.slot z.view.core.dying) c.seat.view_is
    (ripe_dying c.seat.inside.seat.me.0.core _ c.seat.invariant.stores
    c.seat.invariant.seated.law c.in-Some.slot (λ nil. absurd (cc (e.none.1 nil))) e.first)

pub returns-in-Some-clause-none : goal.returns-in-Some-clause-none
returns-in-Some-clause-none g c = (
  λ e. absurd (cc (e)),
  λ nil. absurd (stands_in c.in-Some.slot _ (returns-in-Some-clause-dying g c) nil),
)

pub returns-in-None-clause-none : goal.returns-in-None-clause-none
returns-in-None-clause-none g c =
    let all = all_waiting c.seat.inside.seat.me.0.core _ c.seat.invariant.stores
    c.seat.invariant.seated.law ((c.in-None.ensures {u = tt}).none.0 refl)
    ∙ ap (λ (z : SeatState _). z.view.core.dying) c.seat.view_is in
    let none = c.first_waiting.ensures.none in
    (λ e. sym all ∙ none.0 e, λ nil. none.1 (all ∙ nil))

pub returns-in-None-clause-dying : goal.returns-in-None-clause-dying
returns-in-None-clause-dying g c =
    let all = all_waiting c.seat.inside.seat.me.0.core _ c.seat.invariant.stores
    c.seat.invariant.seated.law ((c.in-None.ensures {u = tt}).none.0 refl)
    ∙ ap (λ (z : SeatState _). z.view.core.dying) c.seat.view_is in
    let e = c.first_waiting.ensures in
    subst (λ xs. IfSome c.first_waiting.result (λ x. 0 < times x xs)) all
    (first_found c.first_waiting.result c.seat.inside.dying.waiting e.none.1 e.first)
