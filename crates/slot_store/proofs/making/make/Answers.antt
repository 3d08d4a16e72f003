use Rattle.std.proofs.Common.{ap, refl, sym, subst}
use Rattle.claim_law.specs.core_events.declared.view.CoreView.{CoreView}
use Rattle.retiring_stores.proofs.Below.control_word_Owning.{some_more}
use Rattle.protocol_pairs.specs.plain_state.declared.slot.SlotId.{SlotId}
use Rattle.slot_store.specs.Calls.{Makes}
use Rattle.slot_store.proofs.Beginning.{apart, begins, is_of_bare, is_of_blank, is_of_full}
use Rattle.slot_store.proofs.Searches.{still_rests}
use Rattle.slot_store.proofs.Starting.{makes, rests_again, still_known}
use Rattle.slot_store.proofs.making.make.Goals as goal

pub returns-in_default-clause-rest : goal.returns-in_default-clause-rest
returns-in_default-clause-rest g c =
    let missed = rw c.in_default.is at c.claim_any.ensures.search in
    still_rests c.args.domain.now c.args.seat.now c.claim_any.new.seat missed.tries missed.goes
    c.requires.rest

pub arm-requires-clause-seat : goal.arm-requires-clause-seat
arm-requires-clause-seat g c =
    is_of_bare c.args.domain.now c.in-Some.slot c.args.seat.now c.claim_any.new.seat
    c.requires.rest c.in-Some.ensures.search

pub fill_all-requires-clause-seat : goal.fill_all-requires-clause-seat
fill_all-requires-clause-seat g c =
    is_of_blank c.args.domain.now c.in-Some.slot c.args.seat.now c.claim_any.new.seat
    c.requires.rest c.in-Some.ensures.search c.arm.new.seat c.arm.result c.arm.ensures

pub start-requires-clause-seat : goal.start-requires-clause-seat
start-requires-clause-seat g c =
    is_of_full c.args.domain.now c.in-Some.slot c.args.seat.now c.claim_any.new.seat
    c.requires.rest c.in-Some.ensures.search c.arm.new.seat c.arm.result c.arm.ensures
    c.args.payload.now c.fill_all.new.seat c.fill_all.ensures

pub start-requires-clause-deed : goal.start-requires-clause-deed
start-requires-clause-deed g c =
    c.requires.deed c.in-Some.slot c.fill_all.new.seat
    (begins c.args.domain.now c.in-Some.slot c.args.seat.now c.claim_any.new.seat
    c.requires.rest c.in-Some.ensures.search c.arm.new.seat c.arm.result c.arm.ensures
    c.args.payload.now c.fill_all.new.seat c.fill_all.ensures)

pub returns-clause-made : goal.returns-clause-made
returns-clause-made g c =
    subst (λ (s : SlotId). Makes g.P.Kind.PayloadKind.fits c.args.domain.now
    (g.D.Deed.next c.args.deed c.args.domain.now.protocol)
    (g.D.Deed.allows c.args.deed c.args.domain.now.protocol) c.args.payload.now s
    c.args.seat.now c.start.new.seat) (sym c.of.ensures)
    (makes c.args.domain.now c.args.payload.now c.in-Some.slot c.args.seat.now
    c.fill_all.new.seat c.start.new.seat c.requires.rest
    (begins c.args.domain.now c.in-Some.slot c.args.seat.now c.claim_any.new.seat
    c.requires.rest c.in-Some.ensures.search c.arm.new.seat c.arm.result c.arm.ensures
    c.args.payload.now c.fill_all.new.seat c.fill_all.ensures)
    c.start.result c.start.ensures)

pub returns-clause-objects : goal.returns-clause-objects
returns-clause-objects g c =
    still_known c.args.domain.now c.args.payload.now c.in-Some.slot c.args.seat.now
    c.fill_all.new.seat c.start.new.seat c.requires.rest
    (begins c.args.domain.now c.in-Some.slot c.args.seat.now c.claim_any.new.seat
    c.requires.rest c.in-Some.ensures.search c.arm.new.seat c.arm.result c.arm.ensures
    c.args.payload.now c.fill_all.new.seat c.fill_all.ensures)
    c.start.result c.start.ensures
    (apart c.args.domain.now c.in-Some.slot c.args.seat.now c.claim_any.new.seat
    c.requires.rest c.in-Some.ensures.search c.arm.new.seat c.arm.result c.arm.ensures)

pub returns-clause-rest : goal.returns-clause-rest
returns-clause-rest g c =
    rests_again c.args.domain.now c.args.payload.now c.in-Some.slot c.args.seat.now
    c.fill_all.new.seat c.start.new.seat c.requires.rest
    (begins c.args.domain.now c.in-Some.slot c.args.seat.now c.claim_any.new.seat
    c.requires.rest c.in-Some.ensures.search c.arm.new.seat c.arm.result c.arm.ensures
    c.args.payload.now c.fill_all.new.seat c.fill_all.ensures)
    c.start.result c.start.ensures

pub returns-clause-owned : goal.returns-clause-owned
returns-clause-owned g c =
    let made = returns-clause-made g c in
    some_more c.of.result.slot c.of.result.slot refl c.args.seat.now.view.core.owned
    c.start.new.seat.view.core.owned (ap (λ (v : CoreView). v.owned) made.core)
