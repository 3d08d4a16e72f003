-- The quotas of every seat are in their ranges.
use Rattle.std.proofs.Common.{◌≡◌, ◌^◌, List, [], ap, sym, subst, ◌∙◌, length, lit≤}
use Rattle.std.proofs.lemmas.List.{length-replicate}
use Rattle.std.proofs.lemmas.List.Elements.{All-replicate}
use Rattle.std.specs.List.{All}
use Rattle.step_lines.specs.core_events.declared.shape.Quota.{Quota}
use Rattle.step_lines.specs.core_events.declared.shape.Shape.{Shape}
use Rattle.step_lines.specs.core_events.Runs.{AreTerms, IsQuota}
use Rattle.cdrc_steps.specs.Meaning.{quotas_of}

pub quotas_fit : (z : Shape) (qs : List Quota) → qs ≡ quotas_of z
    → AreTerms z (record { quotas = qs; grants = [] })
quotas_fit z qs is =
    let quota : Quota = record { makes = 2 ^ 40; adds = 2 ^ 40 } in (
      ap length is ∙ length-replicate z.seats quota,
      subst (All IsQuota) (sym is) (All-replicate IsQuota z.seats quota (lit≤ tt, lit≤ tt)),
      lit≤ tt,
    )
