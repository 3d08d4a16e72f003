use Rattle.lane_domain.proofs.Enough.{makes_there, unlaid_missed}
use Rattle.lane_domain.proofs.Laid.{grants_there}
use Rattle.lane_domain.proofs.Shapes.{few_slots_in}
use Rattle.lane_domain.proofs.opening.open_lanes.Goals as goal

pub returns-in-Ok-clause-grants : goal.returns-in-Ok-clause-grants
returns-in-Ok-clause-grants c =
    grants_there c.args.work.now c.args.lanes c.args.slots c.args.form c.in_ok-domain.field-0.domain
    c.in_ok-domain.ensures.domain

pub returns-in-Err-clause-why : goal.returns-in-Err-clause-why
returns-in-Err-clause-why c = (
  c.in_ok-domain.ensures.domain,
  c.in-Err.ensures.missed,
  few_slots_in c.args.work.now c.args.lanes c.args.slots c.args.form c.in_ok-domain.field-0.domain
      c.in_ok-domain.ensures.domain c.in-Err.ensures.slots,
  c.in-Err.ensures.of_domain,
  unlaid_missed _ c.in_ok-domain.field-0.domain c.lay.new.root c.in-Err.ensures.missed,
)

pub returns-in-Ok-clause-makes : goal.returns-in-Ok-clause-makes
returns-in-Ok-clause-makes c =
    makes_there c.args.work.now c.args.lanes c.args.slots c.args.form c.in_ok-domain.field-0.domain
    c.in_ok-domain.ensures.domain
