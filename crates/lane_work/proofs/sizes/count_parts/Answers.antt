use Rattle.std.proofs.Common.{◌+◌, ◌<◌, ap, subst, arith}
use Rattle.cdrc_text.specs.Text.{slots_of_word}
use Rattle.lane_work.proofs.Limits.{one_part, parts_so_far}
use Rattle.lane_work.proofs.sizes.count_parts.Goals as goal

pub overflow_add-parts : goal.overflow_add-parts
overflow_add-parts c =
    let file = c.args.file.now in let n = c.loop-number.number in
    let there = subst (λ m. n < m) c.len-number-end.ensures c.loop-number-test.true in
    let so = parts_so_far file c.requires.lies (n + 1) in
    let one = one_part file c.requires.lies n there in
    let same = ap slots_of_word c.piece.ensures in let before = c.loop-number.invariant in
    let size = c.div_ceil-parts.ensures in let few = c.requires.few in
    omega arith
