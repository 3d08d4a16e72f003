use Rattle.std.proofs.Common.{rules}
use Rattle.std.specs.Prelude.{nat_lt}
use Rattle.std.proofs.lemmas.List.Sorted.{IsPartitionPoint-from_clause}
use Rattle.plain_audit.specs.plain_state.declared.slot.SlotId.{SlotId}
use Rattle.taken_audit.proofs.InPlace.{parted, point_placed}
use Rattle.taken_audit.proofs.placing.placed.Goals as goal

pub returns : goal.returns
returns c =
    let word = c.args.word in
    let point = IsPartitionPoint-from_clause (λ (s : SlotId). nat_lt s.0 word) _ _
    c.partition_point.ensures.partitioned
    (parted c.requires.rises.0 c.args.taken.now word c.requires.rises.1)
    (λ a r q k. search rules) in
    point_placed c.args.taken.now word c.partition_point.result c.partition_point.ensures.bound point
