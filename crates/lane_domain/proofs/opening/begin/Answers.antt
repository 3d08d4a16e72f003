use Rattle.std.proofs.Common.{◌≡◌, ◌+◌, ◌*◌, ℕ, Err, ap, ◌∙◌, arith}
use Rattle.lane_domain.specs.Opened.{cells_for}
use Rattle.lane_domain.proofs.Shapes.{none_bad_by}
use Rattle.lane_domain.proofs.opening.begin.Goals as goal

pub unreachable-requires : goal.unreachable-requires
unreachable-requires c =
    let work = c.args.work.now in
    let same = ap (λ (n : ℕ). work.rounds * n) c.count_pieces.ensures in
    let weak : 2 * (work.rounds * c.count_pieces.result) + 1 ≡ cells_for work = omega (arith, same) in
    none_bad_by work c.requires.within c.args.lanes c.args.slots c.requires.lanes.1
    c.requires.slots.0 c.requires.slots.1 _ c.deref.result.now
    c.deref-2.result.now weak (c.deref.ensures.value ∙ c.in_ok-quotas.ensures)
    (c.deref-2.ensures.value ∙ c.in_ok-grants.ensures) c.in-Err-BadShape.field-0-0
    ((c.open_granted.ensures.bad c.in-Err-BadShape.field-0-0).0
    (c.in-Err-BadShape.is ∙ ap Err c.in-Err-BadShape.field-0-is))
