use Rattle.std.proofs.Common.{ℕ, ◌+◌, ◌*◌, ap, arith}
use Rattle.lane_work.specs.Sizes.{all_pieces}
use Rattle.lane_work.proofs.Limits.{interns_most, makes_most, pieces_most, slots_most}
use Rattle.lane_work.proofs.sizes.is_within_limits.Goals as goal

pub overflow_add-makes : goal.overflow_add-makes
overflow_add-makes c =
    let work = c.args.work.now in let pieces = c.count_pieces-pieces.ensures in
    let slots = c.count_slots.ensures in let p = pieces_most work c.requires in
    let s = slots_most work c.requires in
    omega arith

pub overflow_mul-work : goal.overflow_mul-work
overflow_mul-work c =
    let work = c.args.work.now in
    let same = ap (λ (n : ℕ). work.rounds * n) c.count_pieces-pieces.ensures in
    let most = interns_most work c.requires in
    omega arith

pub overflow_mul-result : goal.overflow_mul-result
overflow_mul-result c =
    let work = c.args.work.now in
    let pieces = ap (λ (n : ℕ). work.rounds * (n + c.count_slots.result))
    c.count_pieces-pieces.ensures in
    let slots = ap (λ (n : ℕ). work.rounds * (all_pieces work + n)) c.count_slots.ensures in
    let most = makes_most work c.requires in
    omega arith

pub overflow_add-result : goal.overflow_add-result
overflow_add-result c =
    let work = c.args.work.now in
    let pieces = ap (λ (n : ℕ). work.rounds * (n + c.count_slots.result))
    c.count_pieces-pieces.ensures in
    let slots = ap (λ (n : ℕ). work.rounds * (all_pieces work + n)) c.count_slots.ensures in
    let most = makes_most work c.requires in
    omega arith
