use Rattle.std.proofs.Common.{◌≡◌, inl, subst}
use Rattle.lane_domain.specs.declared.opened.OpenLanesError.TheVariants as opened
use Rattle.lane_domain.specs.Opened.{IsWhyNotOpened}
use Rattle.lane_reports.proofs.Refused.{unlaid_owns, unlaid_scanned}
use Rattle.lane_reports.proofs.running.open.Goals as goal

pub returns-in-Err-Full-clause-why : goal.returns-in-Err-Full-clause-why
returns-in-Err-Full-clause-why c =
    let e : c.in-Err-Full.field-0 ≡ opened.Full c.in-Err-Full.unlaid = c.in-Err-Full.field-0-is in
    let why = subst (IsWhyNotOpened _ c.args.work.now c.args.lanes c.args.slots c.args.form) e
    c.in-Err-Full.ensures.why in (
      c.in-Err-Full.unlaid.domain,
      why.0,
      why.2,
      inl why.1,
      unlaid_scanned _ c.in-Err-Full.unlaid.domain c.in-Err-Full.unlaid.root why.1,
      unlaid_owns _ c.in-Err-Full.unlaid.domain c.in-Err-Full.unlaid.root why.1,
      why.3,
      why.4,
    )
