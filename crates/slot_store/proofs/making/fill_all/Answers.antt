use Rattle.std.proofs.Common.{arith, rules}
use Rattle.slot_store.proofs.Filling.{all_filled, is_of_still, none_filled, one_filled, still_blank}
use Rattle.slot_store.proofs.making.fill_all.Goals as goal

pub loop-index-init : goal.loop-index-init
loop-index-init g c = none_filled c.args.domain.now c.args.payload.now c.args.slot c.args.seat.now

pub fill_in-requires-clause-seat : goal.fill_in-requires-clause-seat
fill_in-requires-clause-seat g c =
    is_of_still c.args.domain.now c.args.payload.now c.args.slot c.args.seat.now c.requires.blank
    c.loop-index.index c.loop-index.seat c.loop-index.invariant c.requires.seat

pub fill_in-requires-clause-may : goal.fill_in-requires-clause-may
fill_in-requires-clause-may g c = (
  (
    c.args.slot,
    still_blank c.args.domain.now c.args.payload.now c.args.slot c.args.seat.now c.requires.blank
        c.loop-index.index c.loop-index.seat c.loop-index.invariant,
  ),
  c.loop-index-test.true,
  search rules,
)

pub fill_in-requires-clause-blank : goal.fill_in-requires-clause-blank
fill_in-requires-clause-blank g c =
    still_blank c.args.domain.now c.args.payload.now c.args.slot c.args.seat.now c.requires.blank
    c.loop-index.index c.loop-index.seat c.loop-index.invariant

pub loop-index-preserved : goal.loop-index-preserved
loop-index-preserved g c =
    one_filled c.args.domain.now c.args.payload.now c.args.slot c.args.seat.now c.requires.blank
    c.loop-index.index c.loop-index.seat c.loop-index.invariant c.fill_in.new.seat c.fill_in.result
    c.loop-index-test.true c.fill_in.ensures

pub returns : goal.returns
returns g c =
    let past = c.loop-index-test.false in
    let most = c.loop-index.auto.index-end in
    all_filled c.args.domain.now c.args.payload.now c.args.slot c.args.seat.now c.requires.blank
    c.loop-index.index c.loop-index.seat c.loop-index.invariant (omega arith) c.told-payload
