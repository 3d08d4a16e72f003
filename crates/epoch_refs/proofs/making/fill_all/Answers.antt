use Rattle.std.proofs.Common.{arith, rules}
use Rattle.epoch_refs.proofs.Filling.{all_filled, is_of_still, none_filled, one_filled, still_blank}
use Rattle.epoch_refs.proofs.making.fill_all.Goals as goal

pub loop-index-init : goal.loop-index-init
loop-index-init g c = none_filled _ c.args.domain.now c.args.payload.now c.args.slot c.args.seat.now

pub fill-requires-clause-seat : goal.fill-requires-clause-seat
fill-requires-clause-seat g c =
    is_of_still _ c.args.domain.now c.args.payload.now c.args.slot c.args.seat.now c.requires.blank
    c.loop-index.index c.loop-index.seat c.loop-index.invariant c.requires.seat

pub fill-requires-clause-may : goal.fill-requires-clause-may
fill-requires-clause-may g c = (
  (
    c.args.slot,
    still_blank _ c.args.domain.now c.args.payload.now c.args.slot c.args.seat.now c.requires.blank
        c.loop-index.index c.loop-index.seat c.loop-index.invariant,
  ),
  c.loop-index-test.true,
  search rules,
)

pub fill-requires-clause-blank : goal.fill-requires-clause-blank
fill-requires-clause-blank g c =
    still_blank _ c.args.domain.now c.args.payload.now c.args.slot c.args.seat.now c.requires.blank
    c.loop-index.index c.loop-index.seat c.loop-index.invariant

pub loop-index-preserved : goal.loop-index-preserved
loop-index-preserved g c =
    one_filled _ c.args.domain.now c.args.payload.now c.args.slot c.args.seat.now c.requires.blank
    c.loop-index.index c.loop-index.seat c.loop-index.invariant c.fill.new.seat c.fill.result
    c.loop-index-test.true c.fill.ensures

pub returns : goal.returns
returns g c =
    let past = c.loop-index-test.false in
    let most = c.loop-index.auto.index-end in
    all_filled _ c.args.domain.now c.args.payload.now c.args.slot c.args.seat.now c.requires.blank
    c.loop-index.index c.loop-index.seat c.loop-index.invariant (omega arith) c.told-payload
