use Rattle.std.proofs.Common.{rules, arith, ◌≡◌, ◌*◌, ◌+◌, Err, ap, subst, sym, ◌∙◌}
use Rattle.cell_lanes.specs.cell_calls.Cells.{area_of}
use Rattle.cell_lanes.specs.cell_calls.cell_law.Owned.{first_view}
use Rattle.cell_lanes.specs.cell_calls.cell_protocol.declared.law.CellLaw.{CellLaw}
use Rattle.cell_lanes.specs.lane_work.Sizes.{all_pieces}
use Rattle.epoch_refs.specs.epoch_core.Runs.{IsShape}
use Rattle.epoch_refs.specs.epoch_domain.Domains.{DomainState}
use Rattle.epoch_refs.specs.epoch_domain.Openings.{AreOpened}
use Rattle.cell_domain.specs.Opened.{AreLanes, IsDomainFor, cells_for}
use Rattle.cell_domain.proofs.Seats.{are_lanes}
use Rattle.cell_domain.proofs.Shapes.{in_shape, none_bad_by}
use Rattle.cell_domain.proofs.opening.open_cells.Goals as goal

pub returns-in-Ok-clause-seats : goal.returns-in-Ok-clause-seats
returns-in-Ok-clause-seats c =
    let is : IsDomainFor c.args.work.now c.args.lanes c.args.slots c.in-Ok.domain = search rules in
    subst (AreLanes c.in-Ok.domain c.args.lanes) (sym c.remove-root.ensures.items)
    (are_lanes c.args.work.now c.args.lanes c.args.slots c.in-Ok.domain c.requires.lanes.0 is
    (subst IsShape (sym is.shape) (in_shape c.args.work.now c.requires.within c.args.lanes
    c.args.slots c.requires.lanes.0 c.requires.lanes.1 c.requires.slots.0 c.requires.slots.1))
    c.in-Ok.seats.items
    (subst (λ (law : CellLaw). AreOpened (first_view (area_of law)) c.in-Ok.domain
    c.in-Ok.seats.items)
    (sym (ap (λ (d : DomainState CellLaw). d.protocol) c.in-Ok.ensures.domain))
    c.in-Ok.ensures.seats)
    c.in-Ok.ensures.free)

pub unreachable-requires : goal.unreachable-requires
unreachable-requires c =
    let work = c.args.work.now in
    let same : work.rounds * c.count_pieces.result ≡ work.rounds * all_pieces work =
    ap (λ n. work.rounds * n) c.count_pieces.ensures in
    let cells : 2 * (work.rounds * c.count_pieces.result) + 1 ≡ cells_for work = omega (arith, same)
    in
    none_bad_by work c.requires.within c.args.lanes c.args.slots c.requires.lanes.0
    c.requires.lanes.1 c.requires.slots.0 c.requires.slots.1
    (2 * (work.rounds * c.count_pieces.result) + 1)
    c.deref.result.now cells (c.deref.ensures.value ∙ c.in_ok-quotas.ensures)
    c.in-Err-BadShape.field-0-0
    ((c.open_epoch.ensures.bad c.in-Err-BadShape.field-0-0).0
    (c.in-Err-BadShape.is ∙ ap Err c.in-Err-BadShape.field-0-is))
