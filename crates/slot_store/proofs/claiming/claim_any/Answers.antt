use Rattle.std.proofs.Common.{true, false, ◌≡◌, ℕ, ◌+◌, ap, sym, ◌∙◌, subst, arith}
use Rattle.std.specs.Prelude.{◌==◌}
use Rattle.claim_law.specs.core_events.declared.shape.Shape.{Shape}
use Rattle.claim_law.specs.core_events.Words.{bit_in}
use Rattle.slot_store.specs.Searching.{Claims}
use Rattle.slot_store.specs.Turns.{IsAtTurn}
use Rattle.slot_store.proofs.Exhausting.{more_makes}
use Rattle.slot_store.proofs.Searches.{Trying, all_tried, may_claim, none_tried, one_missed, one_shown, one_won, rests}
use Rattle.slot_store.proofs.claiming.claim_any.Goals as goal

pub loop-turn-init : goal.loop-turn-init
loop-turn-init g c =
    none_tried c.args.domain.now c.first_slot-first.result c.first_slot-first.ensures.there
    c.args.seat.now c.first_slot-first.new.seat c.first_slot-first.ensures.same

pub loop-turn-preserved-then-not-has_bit : goal.loop-turn-preserved-then-not-has_bit
loop-turn-preserved-then-not-has_bit g c =
    let slots = ap (λ (z : Shape). z.slots) c.shape-slots.ensures in
    let below = c.loop-turn-test.true in
    let at = subst (λ (n : ℕ). IsAtTurn c.first_slot-first.result.0 n c.loop-turn.turn c.slot_at-slot.result.0) slots
    c.slot_at-slot.ensures in
    subst (λ (w : ℕ). Trying g.P.Kind.PayloadKind.fits c.args.domain.now c.first_slot-first.result.0
    (c.loop-turn.turn + 1) c.loop-turn.home w c.args.seat.now c.loop-turn.seat)
    (sym c.newest-found.ensures)
    (one_shown c.args.domain.now c.first_slot-first.result c.first_slot-first.ensures.there
    c.loop-turn.turn c.loop-turn.home c.loop-turn.found c.args.seat.now c.loop-turn.seat
    (omega arith) c.loop-turn.invariant c.slot_at-slot.result at
    (subst (λ (w : ℕ). (bit_in c.slot_at-slot.result w == 1) ≡ false) c.newest-found.ensures
    (sym c.has_bit.ensures ∙ c.if-not-has_bit.true)))

pub claim-requires-clause-seat : goal.claim-requires-clause-seat
claim-requires-clause-seat g c =
    let slots = ap (λ (z : Shape). z.slots) c.shape-slots.ensures in
    let below = c.loop-turn-test.true in
    let at = subst (λ (n : ℕ). IsAtTurn c.first_slot-first.result.0 n c.loop-turn.turn c.slot_at-slot.result.0) slots
    c.slot_at-slot.ensures in
    (rests c.args.domain.now c.first_slot-first.result c.first_slot-first.ensures.there
    c.loop-turn.turn c.loop-turn.home c.loop-turn.found c.args.seat.now c.loop-turn.seat
    (omega arith) c.loop-turn.invariant c.slot_at-slot.result at c.requires.rest).of_domain

pub claim-requires-clause-may : goal.claim-requires-clause-may
claim-requires-clause-may g c =
    let slots = ap (λ (z : Shape). z.slots) c.shape-slots.ensures in
    let below = c.loop-turn-test.true in
    let at = subst (λ (n : ℕ). IsAtTurn c.first_slot-first.result.0 n c.loop-turn.turn c.slot_at-slot.result.0) slots
    c.slot_at-slot.ensures in
    may_claim c.args.domain.now c.first_slot-first.result c.first_slot-first.ensures.there
    c.loop-turn.turn c.loop-turn.home c.loop-turn.found c.args.seat.now c.loop-turn.seat
    (omega arith) c.loop-turn.invariant c.slot_at-slot.result at c.requires.rest c.requires.make
    c.requires.add

pub end_search-requires-clause-seat : goal.end_search-requires-clause-seat
end_search-requires-clause-seat g c =
    let slots = ap (λ (z : Shape). z.slots) c.shape-slots.ensures in
    let below = c.loop-turn-test.true in
    let at = subst (λ (n : ℕ). IsAtTurn c.first_slot-first.result.0 n c.loop-turn.turn c.slot_at-slot.result.0) slots
    c.slot_at-slot.ensures in
    let was = (rests c.args.domain.now c.first_slot-first.result c.first_slot-first.ensures.there
    c.loop-turn.turn c.loop-turn.home c.loop-turn.found c.args.seat.now c.loop-turn.seat
    (omega arith) c.loop-turn.invariant c.slot_at-slot.result at c.requires.rest).of_domain in
    (c.claim.ensures.table ∙ was.0, c.claim.ensures.told.law.same_shape)

pub returns-in_default-clause-search : goal.returns-in_default-clause-search
returns-in_default-clause-search g c =
    let slots = ap (λ (z : Shape). z.slots) c.shape-slots.ensures in
    let below = c.loop-turn-test.true in
    let at = subst (λ (n : ℕ). IsAtTurn c.first_slot-first.result.0 n c.loop-turn.turn c.slot_at-slot.result.0) slots
    c.slot_at-slot.ensures in
    subst (λ x. Claims g.P.Kind.PayloadKind.fits c.args.domain.now c.args.seat.now x
    c.slot_at-slot.result) (sym c.end_search.ensures)
    (one_won c.args.domain.now c.first_slot-first.result c.first_slot-first.ensures.there
    c.loop-turn.turn c.loop-turn.home c.loop-turn.found c.args.seat.now c.loop-turn.seat
    (omega arith) c.loop-turn.invariant c.slot_at-slot.result at c.claim.new.seat c.claim.result
    (subst (λ (w : ℕ). (bit_in c.slot_at-slot.result w == 1) ≡ true) c.newest-found.ensures
    (sym c.has_bit.ensures ∙ c.if-not-has_bit.false))
    c.claim.ensures c.in_default.not-Taken)

pub loop-turn-preserved : goal.loop-turn-preserved
loop-turn-preserved g c =
    let slots = ap (λ (z : Shape). z.slots) c.shape-slots.ensures in
    let below = c.loop-turn-test.true in
    let at = subst (λ (n : ℕ). IsAtTurn c.first_slot-first.result.0 n c.loop-turn.turn c.slot_at-slot.result.0) slots
    c.slot_at-slot.ensures in
    subst (λ (w : ℕ). Trying g.P.Kind.PayloadKind.fits c.args.domain.now c.first_slot-first.result.0
    (c.loop-turn.turn + 1) w c.in-Taken.word c.args.seat.now c.claim.new.seat)
    (sym c.newest_home-home.ensures)
    (one_missed c.args.domain.now c.first_slot-first.result c.first_slot-first.ensures.there
    c.loop-turn.turn c.loop-turn.home c.loop-turn.found c.args.seat.now c.loop-turn.seat
    (omega arith) c.loop-turn.invariant c.slot_at-slot.result at c.claim.new.seat c.claim.result
    c.in-Taken.word (subst (λ (w : ℕ). (bit_in c.slot_at-slot.result w == 1) ≡ true) c.newest-found.ensures
    (sym c.has_bit.ensures ∙ c.if-not-has_bit.false))
    c.claim.ensures c.in-Taken.is)

pub returns-clause-search : goal.returns-clause-search
returns-clause-search g c =
    let slots = ap (λ (z : Shape). z.slots) c.shape-slots.ensures in
    let past = c.loop-turn-test.false in
    let most = c.loop-turn.auto.turn-end in
    all_tried c.args.domain.now c.first_slot-first.result c.first_slot-first.ensures.there
    c.loop-turn.turn c.loop-turn.home c.loop-turn.found c.args.seat.now c.loop-turn.seat (omega arith)
    c.loop-turn.invariant

pub returns-clause-none : goal.returns-clause-none
returns-clause-none g c = λ none.
    more_makes c.args.domain.now c.args.seat.now c.loop-turn.seat
    (let first = c.first_slot-first.ensures.there in omega arith)
    c.requires.rest c.requires.make (returns-clause-search g c)
