use Rattle.std.proofs.Common.{Option, ap, rules, sym, ◌++◌, ◌∙◌}
use Rattle.plain_state.specs.declared.slot.SlotId.{SlotId}
use Rattle.core_promises.specs.core_events.declared.act.Act.TheVariants as act
use Rattle.core_promises.specs.core_events.Steps.{moved}
use Rattle.core_promises.specs.core_events.Views.{alone, slot_of}
use Rattle.acquire_retire.specs.Seats.{Stored}
use Rattle.acquire_retire.proofs.Calls.{call_tells, can_still, kept}
use Rattle.acquire_retire.proofs.Dying.{room_to_end, seat_ended}
use Rattle.acquire_retire.proofs.domain.Domain.finish.Goals as goal

pub compare_exchange_as-found-requires-clause-can : goal.compare_exchange_as-found-requires-clause-can
compare_exchange_as-found-requires-clause-can g c =
    can_still c.args.self.now _ act.Finish c.seat.inside.seat c.args.seat.now
    c.seat.view_is c.seat.invariant.seated c.requires.seat tt tt c.requires.may

pub end-requires : goal.end-requires
end-requires g c =
    let can = can_still c.args.self.now g.P.Kind.PayloadKind.fits act.Finish c.seat.inside.seat
    c.args.seat.now c.seat.view_is c.seat.invariant.seated c.requires.seat tt tt c.requires.may in
    let v = c.seat.inside.seat.me.0.core in
    let longer = ap (λ w. (moved c.args.self.now.shape act.Finish w v).dying) c.if-found-eq0.true in
    let room = room_to_end c.args.self.now _ c.self.view_is _ c.self.invariant _ _ act.Finish
    c.seat.inside.seat c.compare_exchange_as-found.new.seat _ c.compare_exchange_as-found.ensures tt
    can.shape _ _ _ _ c.seat.invariant can.may.0
    (longer ∙ ap (λ (o : Option SlotId). v.dying ++ alone o) (ap slot_of can.may.1)) in
    search rules

pub returns-then-found-eq0 : goal.returns-then-found-eq0
returns-then-found-eq0 g c =
    call_tells c.args.self.now _ _ act.Finish c.seat.inside.seat c.compare_exchange_as-found.new.seat c.compare_exchange_as-found.result c.compare_exchange_as-found.ensures
    c.args.seat.now c.seat.view_is _ (search rules)

pub returns-then-has_help : goal.returns-then-has_help
returns-then-has_help g c =
    call_tells c.args.self.now _ _ act.Finish c.seat.inside.seat c.compare_exchange_as-found.new.seat c.compare_exchange_as-found.result c.compare_exchange_as-found.ensures
    c.args.seat.now c.seat.view_is _ (search rules)

pub returns : goal.returns
returns g c =
    call_tells c.args.self.now _ _ act.Finish c.seat.inside.seat c.compare_exchange_as-found.new.seat c.compare_exchange_as-found.result c.compare_exchange_as-found.ensures
    c.args.seat.now c.seat.view_is _ (search rules)

pub invariant_of-seat : goal.invariant_of-seat
invariant_of-seat g c =
    let can = can_still c.args.self.now g.P.Kind.PayloadKind.fits act.Finish c.seat.inside.seat
    c.args.seat.now c.seat.view_is c.seat.invariant.seated c.requires.seat tt tt c.requires.may in
    let v = c.seat.inside.seat.me.0.core in
    let is = ap slot_of (sym (ap (λ (s : Stored). s.phase) c.seat.invariant.stores) ∙ c.in-Finish.is) in
    let longer = ap (λ w. (moved c.args.self.now.shape act.Finish w v).dying) c.if-found-eq0.true in
    rw c.end.ensures
    (seat_ended c.args.self.now _ c.self.view_is _ c.self.invariant _ _ act.Finish c.seat.inside.seat
    c.compare_exchange_as-found.new.seat _ c.compare_exchange_as-found.ensures tt _ _ _ _ c.seat.invariant can.shape
    c.in-Finish.slot (slot_of v.phase)
    (ap (λ w. kept (moved c.args.self.now.shape act.Finish w v)) c.if-found-eq0.true)
    (longer ∙ ap (λ (o : Option SlotId). v.dying ++ alone o) is) is)
