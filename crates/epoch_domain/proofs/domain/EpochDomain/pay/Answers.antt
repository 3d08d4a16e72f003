use Rattle.std.proofs.Common.{refl, rules, arith, ap, ◌∙◌}
use Rattle.epoch_rule.specs.epoch_core.declared.act.EpochAct.TheVariants as act
use Rattle.epoch_domain.specs.Seats.{SeatState, Stored}
use Rattle.epoch_domain.proofs.Calls.{call_tells}
use Rattle.epoch_domain.proofs.Ending.{room_to_end}
use Rattle.epoch_domain.proofs.domain.EpochDomain.pay.Goals as goal

pub push-requires : goal.push-requires
push-requires g c =
    let shape = ap (λ (s : SeatState _). s.view.core.shape) c.seat.view_is ∙ c.requires.seat.1 in
    room_to_end c.args.self.now _ c.self.view_is _ c.self.invariant _ _ (act.Pay c.in_ok-entry.entry)
    c.seat.inside.seat c.fetch_sub_as-found.new.seat c.fetch_sub_as-found.result
    c.fetch_sub_as-found.ensures shape _ c.seat.invariant.rooms.ended _
    (ap (λ (s : Stored). s.ended) c.seat.invariant.stores) c.in_ok-entry.entry.slot
    (rw c.if-found-eq1.true refl)

pub returns-then-found-eq1-clause-paid : goal.returns-then-found-eq1-clause-paid
returns-then-found-eq1-clause-paid g c =
    let more = c.in_ok-entry.ensures.spare in
    call_tells c.args.self.now _ _ (act.Pay c.in_ok-entry.entry) c.seat.inside.seat
    c.fetch_sub_as-found.new.seat c.fetch_sub_as-found.result c.fetch_sub_as-found.ensures _ _
    c.args.seat.now c.seat.view_is _ (search rules) (omega (arith, more))

pub returns-clause-paid : goal.returns-clause-paid
returns-clause-paid g c =
    let more = c.in_ok-entry.ensures.spare in
    call_tells c.args.self.now _ _ (act.Pay c.in_ok-entry.entry) c.seat.inside.seat
    c.fetch_sub_as-found.new.seat c.fetch_sub_as-found.result c.fetch_sub_as-found.ensures _ _
    c.args.seat.now c.seat.view_is _ (search rules) (omega (arith, more))
