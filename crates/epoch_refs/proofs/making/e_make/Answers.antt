use Rattle.std.proofs.Common.{◌<◌, arith, sym, subst}
use Rattle.epoch_domain.specs.plain_protocol.plain_state.declared.slot.SlotId.{SlotId}
use Rattle.epoch_domain.specs.plain_protocol.plain_state.Lists.{times}
use Rattle.epoch_refs.specs.Making.{Makes}
use Rattle.epoch_refs.proofs.Exhausting.{more_makes, slots_fit}
use Rattle.epoch_refs.proofs.Searching.{misses_rest}
use Rattle.epoch_refs.proofs.Starting.{apart, begins, full, is_of_claimed, is_of_filled, makes, owns_it, rests_again, still_known}
use Rattle.epoch_refs.proofs.making.e_make.Goals as goal

pub returns-in_default-clause-full : goal.returns-in_default-clause-full
returns-in_default-clause-full g c = λ is.
    full _ c.args.domain.now c.args.seat.now c.claim_any.new.seat
    (rw c.in_default.is at c.claim_any.ensures)

pub returns-in_default-clause-full_only : goal.returns-in_default-clause-full_only
returns-in_default-clause-full_only g c = λ is.
    let all = full _ c.args.domain.now c.args.seat.now c.claim_any.new.seat
    (rw c.in_default.is at c.claim_any.ensures) in
    let inside = all.inside in
    let left = c.makes_left.ensures in
    let some' = c.if-makes_left-eq0.false in
    more_makes _ c.args.domain.now c.args.seat.now c.claim_any.new.seat (omega arith) all
    (grind arith)

pub returns-in_default-clause-full_by : goal.returns-in_default-clause-full_by
returns-in_default-clause-full_by g c = λ is.
    let all = full _ c.args.domain.now c.args.seat.now c.claim_any.new.seat
    (rw c.in_default.is at c.claim_any.ensures) in
    let inside = all.inside in
    slots_fit _ c.args.domain.now c.args.seat.now c.claim_any.new.seat (omega arith) all

pub returns-in_default-clause-rest : goal.returns-in_default-clause-rest
returns-in_default-clause-rest g c =
    let search = rw c.in_default.is at c.claim_any.ensures in
    misses_rest _ c.args.domain.now _ c.args.seat.now c.claim_any.new.seat search.2 c.requires.rest

pub fill_all-requires-clause-seat : goal.fill_all-requires-clause-seat
fill_all-requires-clause-seat g c =
    is_of_claimed _ c.args.domain.now c.in-Some.slot c.args.seat.now c.claim_any.new.seat
    c.requires.rest c.in-Some.ensures

pub start-requires-clause-seat : goal.start-requires-clause-seat
start-requires-clause-seat g c =
    is_of_filled _ c.args.domain.now c.in-Some.slot c.args.seat.now c.claim_any.new.seat
    c.requires.rest c.in-Some.ensures c.args.payload.now c.fill_all.new.seat c.fill_all.ensures

pub start-requires-clause-deed : goal.start-requires-clause-deed
start-requires-clause-deed g c =
    c.requires.deed c.in-Some.slot c.fill_all.new.seat
    (begins _ c.args.domain.now c.in-Some.slot c.args.seat.now c.claim_any.new.seat
    c.requires.rest c.in-Some.ensures c.args.payload.now c.fill_all.new.seat c.fill_all.ensures)

pub returns-clause-made : goal.returns-clause-made
returns-clause-made g c =
    subst (λ (s : SlotId). Makes g.P.Kind.PayloadKind.fits c.args.domain.now
    (g.D.Deed.next c.args.deed c.args.domain.now.protocol)
    (g.D.Deed.allows c.args.deed c.args.domain.now.protocol) c.args.payload.now s
    c.args.seat.now c.start.new.seat) (sym c.of.ensures)
    (makes _ c.args.domain.now c.args.payload.now c.in-Some.slot c.args.seat.now
    c.fill_all.new.seat c.start.new.seat c.requires.rest
    (begins _ c.args.domain.now c.in-Some.slot c.args.seat.now c.claim_any.new.seat
    c.requires.rest c.in-Some.ensures c.args.payload.now c.fill_all.new.seat c.fill_all.ensures)
    c.start.result c.start.ensures)

pub returns-clause-owned : goal.returns-clause-owned
returns-clause-owned g c =
    subst (λ (s : SlotId). 0 < times s c.start.new.seat.view.core.owned) (sym c.of.ensures)
    (owns_it _ c.args.domain.now c.args.payload.now c.in-Some.slot c.args.seat.now
    c.fill_all.new.seat c.start.new.seat c.requires.rest
    (begins _ c.args.domain.now c.in-Some.slot c.args.seat.now c.claim_any.new.seat
    c.requires.rest c.in-Some.ensures c.args.payload.now c.fill_all.new.seat c.fill_all.ensures)
    c.start.result c.start.ensures)

pub returns-clause-objects : goal.returns-clause-objects
returns-clause-objects g c =
    still_known _ c.args.domain.now c.args.payload.now c.in-Some.slot c.args.seat.now
    c.fill_all.new.seat c.start.new.seat c.requires.rest
    (begins _ c.args.domain.now c.in-Some.slot c.args.seat.now c.claim_any.new.seat
    c.requires.rest c.in-Some.ensures c.args.payload.now c.fill_all.new.seat c.fill_all.ensures)
    c.start.result c.start.ensures
    (apart _ c.args.domain.now c.in-Some.slot c.args.seat.now c.claim_any.new.seat
    c.requires.rest c.in-Some.ensures c.args.payload.now c.fill_all.new.seat c.fill_all.ensures)

pub returns-clause-rest : goal.returns-clause-rest
returns-clause-rest g c =
    rests_again _ c.args.domain.now c.args.payload.now c.in-Some.slot c.args.seat.now
    c.fill_all.new.seat c.start.new.seat c.requires.rest
    (begins _ c.args.domain.now c.in-Some.slot c.args.seat.now c.claim_any.new.seat
    c.requires.rest c.in-Some.ensures c.args.payload.now c.fill_all.new.seat c.fill_all.ensures)
    c.start.result c.start.ensures
