use Rattle.std.proofs.Common.{◌-◌, ◌^◌, arith}
use Rattle.heap_audit.proofs.Holding.{both_counted}
use Rattle.heap_audit.proofs.fields.count_fields.Goals as goal

pub count_field-requires-2-clause-room : goal.count_field-requires-2-clause-room
count_field-requires-2-clause-room c = λ k d h.
    let most = c.count_field.ensures.bound (2 ^ 32 - 2) (λ j e l. let f = c.requires.room j e l in omega (arith, f)) k d h in
    omega (arith, most)

pub returns : goal.returns
returns c = both_counted c.args.slot.now c.args.counts.now c.count_field.new.counts c.count_field-2.new.counts
    (omega arith) c.count_field.ensures.counted c.count_field-2.ensures.counted
