-- How a region is opened.
use Rattle.std.specs.Prelude.{ℕ, List}
use Rattle.epoch_rule.specs.epoch_core.declared.act.EpochAct.TheVariants as act
use Rattle.epoch_rule.specs.epoch_core.declared.outcome.EpochOutcome.TheVariants as outcome
use Rattle.epoch_domain.specs.Calls.{IsSameView, Steps, same_view}
use Rattle.epoch_domain.specs.Domains.{DomainState}
use Rattle.epoch_domain.specs.Seats.{SeatState}

-- by two steps: the epoch is read, and it and one are stored in the seat's region word
pub record Opens {P V : Type 0} (fits : List ℕ → Type 0) (d : DomainState P) (old new : SeatState V)
    : Type 0 where
  pub mid : SeatState V
  pub epoch : ℕ
  pub enters : Steps fits d same_view IsSameView act.Enter old mid (outcome.Epoch epoch)
  pub opens : Steps fits d same_view IsSameView act.Open mid new outcome.Plain
