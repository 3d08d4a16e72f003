-- What holds of a seat by itself holds as it is opened, and of seat 0 after a leave.
use Rattle.std.proofs.Common.{◌≡◌, ℕ, ◌<◌, true, false, List, sym, ◌∙◌, arith}
use Rattle.core_law.specs.core_events.declared.shape.Quota.{Quota}
use Rattle.core_law.proofs.Kit.{times_append}
use Rattle.epoch_core.specs.declared.act.EpochAct.TheVariants as act
use Rattle.epoch_core.specs.declared.outcome.EpochOutcome.TheVariants as outcome
use Rattle.epoch_core.specs.declared.shape.EpochShape.{EpochShape}
use Rattle.epoch_core.specs.declared.view.EpochView.{EpochView}
use Rattle.epoch_core.specs.Runs.{AreQuotas, IsShape, taken_over}
use Rattle.epoch_core.specs.Sound.{SeatLaw}
use Rattle.epoch_core.specs.Steps.{CanLeave, noted}
use Rattle.epoch_core.specs.Views.{first_view}
use Rattle.epoch_core.proofs.Kit.{pending_append}
use Rattle.epoch_core.proofs.Starts.{first_seat}
use Rattle.epoch_rule.specs.Views.{quota_at}

pub opened_law : (z : EpochShape) (qs : List Quota) (n : ℕ) → IsShape z → AreQuotas z qs
    → n < z.seats → SeatLaw z n (first_view z n (quota_at qs n))
opened_law z qs n shape quotas hn =
    let l = quotas.0 in
    first_seat z n (quota_at qs n) (quotas.1 n (record { makes = 0; adds = 0 }) (omega arith))

pub joined_law : (z : EpochShape) (j : ℕ) (root v : EpochView) → SeatLaw z 0 root → SeatLaw z j v
    → CanLeave root → CanLeave v
    → SeatLaw z 0 (noted (act.Leave j) outcome.Plain (taken_over root v))
joined_law z j root v law0 lawj can0 canj = record {
  number = law0.number;
  same_shape = law0.same_shape;
  quota = law0.quota;
  adds = law0.adds;
  makes = law0.makes;
  can_start = law0.can_start;
  range = λ s le.
      let a = times_append s root.owned v.owned in
      let b = pending_append s root.pending v.pending in
      let d = times_append s root.dying v.dying in
      let e = times_append s root.made v.made in
      let x = law0.range s le in
      let y = lawj.range s le in omega arith;
  outside = law0.outside;
  gone = λ e. let no : false ≡ true = sym can0.0.1 ∙ e in absurd cc;
}
