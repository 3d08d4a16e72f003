use Rattle.std.proofs.Common.{arith, rules}
use Rattle.std.proofs.Math.Dec.{ltb}
use Rattle.std.proofs.lemmas.List.Sorted.{IsPartitionPoint-from_clause, IsPartitionedBy-ltb}
use Rattle.eject_scan.specs.declared.seen.Row.{Row}
use Rattle.eject_scan.proofs.Searches.{lacks, stands, words_rise}
use Rattle.eject_scan.proofs.seen.place_of.Goals as goal
use Rattle.eject_scan.proofs.seen.place_of.Goals.{else-place-rows-via-then-place-rows+else-rows-place, else-place-rows-via-else-place-rows}

pub returns-then-rows-place-clause-place : goal.returns-then-rows-place-clause-place
returns-then-rows-place-clause-place c =
    let parted = IsPartitionedBy-ltb (λ (r : Row). r.word) c.args.rows.now c.args.word (words_rise c.args.rows.now c.requires) in
    let point = IsPartitionPoint-from_clause (λ (r : Row). ltb r.word c.args.word) _ _
    c.partition_point-place.ensures.partitioned parted (λ a r q k. search rules) in
    stands c.args.word c.args.rows.now _ point c.if-place-rows.true c.if-rows-place.true

pub returns-else-place-rows-clause-gap : goal.returns-else-place-rows-clause-gap
returns-else-place-rows-clause-gap c =
    let parted = IsPartitionedBy-ltb (λ (r : Row). r.word) c.args.rows.now c.args.word (words_rise c.args.rows.now c.requires) in
    let point = IsPartitionPoint-from_clause (λ (r : Row). ltb r.word c.args.word) _ _
    c.partition_point-place.ensures.partitioned parted (λ a r q k. search rules) in
    lacks c.args.word c.args.rows.now _ c.requires point c.partition_point-place.ensures.bound
    (elim c.else-place-rows.branch [
      | else-place-rows-via-then-place-rows+else-rows-place w ↦ (λ lt e. w.if-rows-place.false e)
      | else-place-rows-via-else-place-rows w ↦ (λ lt e. let past = w.if-place-rows.false in absurd (omega arith))
    ])
