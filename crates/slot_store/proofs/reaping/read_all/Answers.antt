use Rattle.std.proofs.Common.{arith}
use Rattle.slot_store.proofs.SeeingAll.{all_seen_so, may_see, one_seen, passes_seen, rests_now}
use Rattle.slot_store.proofs.reaping.read_all.Goals as goal

pub see-requires-clause-seat : goal.see-requires-clause-seat
see-requires-clause-seat g c =
    (rests_now c.args.domain.now c.args.slot c.args.seat.now c.requires.rest c.requires.dying
    c.loop-index.index c.loop-index.payload c.loop-index.seat c.loop-index.invariant).of_domain

pub see-requires-clause-may : goal.see-requires-clause-may
see-requires-clause-may g c =
    may_see c.args.domain.now c.args.slot c.args.seat.now c.requires.rest c.requires.dying
    c.loop-index.index c.loop-index.payload c.loop-index.seat c.loop-index.invariant
    c.loop-index-test.true

pub returns : goal.returns
returns g c =
    let past = c.loop-index-test.false in
    let most = c.loop-index.auto.index-end in
    record {
      sees = all_seen_so c.args.domain.now c.args.slot c.args.seat.now c.requires.rest
          c.requires.dying c.loop-index.index c.loop-index.payload c.loop-index.seat
          c.loop-index.invariant (omega arith);
      passes = passes_seen c.args.domain.now c.args.slot c.args.seat.now c.requires.rest
          c.requires.dying c.loop-index.index c.loop-index.payload c.loop-index.seat
          c.loop-index.invariant c.requires.room;
    }

pub loop-index-preserved : goal.loop-index-preserved
loop-index-preserved g c =
    one_seen c.args.domain.now c.args.slot c.args.seat.now c.requires.rest c.requires.dying
    c.loop-index.index c.loop-index.payload c.loop-index.seat c.loop-index.invariant
    c.see.new.seat c.see.result c.loop-index-test.true c.see.ensures c.in-Word.word c.in-Word.is
