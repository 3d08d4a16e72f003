use Rattle.std.proofs.Common.{◌≡◌, ℕ, ◌-◌, List, sym, subst, arith}
use Rattle.epoch_domain.specs.plain_protocol.plain_state.declared.slot.SlotId.{SlotId}
use Rattle.epoch_refs.specs.Searching.{Misses, slots_from}
use Rattle.epoch_refs.proofs.SearchOrder.{next_slots, no_slots, slots_around}
use Rattle.epoch_refs.proofs.Searching.{misses_claims, misses_none, misses_one, misses_quota, misses_rest}
use Rattle.epoch_refs.proofs.claiming.claim_between.Goals as goal

pub loop-number-init : goal.loop-number-init
loop-number-init g c = (
  omega arith,
  subst (λ (order : List SlotId). Misses g.P.Kind.PayloadKind.fits c.args.domain.now order
      c.args.seat.now c.args.seat.now) (sym (no_slots c.args.from))
      (misses_none _ c.args.domain.now c.args.seat.now),
)

pub claim-requires-clause-seat : goal.claim-requires-clause-seat
claim-requires-clause-seat g c =
    (misses_rest _ c.args.domain.now _ c.args.seat.now c.loop-number.seat c.loop-number.invariant.1
    c.requires.rest).0

pub claim-requires-clause-may : goal.claim-requires-clause-may
claim-requires-clause-may g c =
    let rest = misses_rest _ c.args.domain.now _ c.args.seat.now c.loop-number.seat
    c.loop-number.invariant.1 c.requires.rest in
    let quota = misses_quota _ c.args.domain.now _ c.args.seat.now c.loop-number.seat
    c.loop-number.invariant.1 (c.requires.make, c.requires.add) in
    let below = c.loop-number-test.true in
    let there = c.requires.there in
    (rest.1, omega arith, quota.0, quota.1)

pub returns-in_default : goal.returns-in_default
returns-in_default g c =
    let below = c.loop-number-test.true in
    let there = c.requires.there in
    misses_claims _ c.args.domain.now _ c.args.seat.now c.loop-number.seat c.loop-number.invariant.1
    (record { 0 = c.loop-number.number }) c.claim.new.seat c.claim.result c.claim.ensures
    c.in_default.not-Taken _ _
    (slots_around c.args.from c.loop-number.number c.args.to c.loop-number.invariant.0 below)
    (omega arith)

pub loop-number-preserved : goal.loop-number-preserved
loop-number-preserved g c =
    let up = c.loop-number.invariant.0 in (
      omega arith,
      subst (λ (order : List SlotId). Misses g.P.Kind.PayloadKind.fits c.args.domain.now order
          c.args.seat.now c.claim.new.seat)
          (sym (next_slots c.args.from c.loop-number.number up))
          (misses_one _ c.args.domain.now _ c.args.seat.now c.loop-number.seat
          c.loop-number.invariant.1 (record { 0 = c.loop-number.number }) c.claim.new.seat
          c.claim.result c.claim.ensures c.in-Taken.field-0 c.in-Taken.is),
    )

pub returns : goal.returns
returns g c =
    let past = c.loop-number-test.false in
    let most = c.loop-number.auto.number-end in
    let up = c.requires.up in
    let is : c.loop-number.number ≡ c.args.to = omega arith in
    subst (λ (n : ℕ). Misses g.P.Kind.PayloadKind.fits c.args.domain.now
    (slots_from c.args.from (n - c.args.from)) c.args.seat.now c.loop-number.seat) is
    c.loop-number.invariant.1
