use Rattle.std.proofs.Common.{sum_by, arith, ap}
use Rattle.std.proofs.lemmas.List.{get_or_default, take_all}
use Rattle.heap_audit.specs.Heaps.{slot, fields_holding}
use Rattle.heap_audit.proofs.Holding.{few_fields, count_more}
use Rattle.heap_audit.proofs.fields.count_all.Goals as goal

pub count_fields-requires-clause-room : goal.count_fields-requires-clause-room
count_fields-requires-clause-room c = λ k d h.
    let few = few_fields (slot k) c.args.slots.now c.loop-slot.slot-index in
    let is = c.loop-slot.invariant.counted (slot k) (omega arith) in
    let same = get_or_default c.loop-slot.counts k d 0 h in
    omega (arith, few, is, same)

pub loop-slot-preserved : goal.loop-slot-preserved
loop-slot-preserved c = record {
  counted = λ s h. count_more s c.args.slots.now c.loop-slot.slot-index _ _ _ c.loop-slot-test.true
      (c.loop-slot.invariant.counted s h) (c.count_fields.ensures s (omega arith));
}

pub returns : goal.returns
returns c = λ s h.
    let all = ap (sum_by (fields_holding s)) (take_all c.loop-slot.slot-index c.args.slots.now (omega arith)) in
    omega (arith, all, c.loop-slot.invariant.counted s h)
