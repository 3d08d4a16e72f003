-- What holds of a seat by itself holds as it is opened, and of seat 0 after a leave.
use Rattle.std.proofs.Common.{ℕ, ◌<◌, arith}
use Rattle.core_law.specs.core_events.declared.act.Act.TheVariants as act
use Rattle.core_law.specs.core_events.declared.outcome.Outcome.TheVariants as outcome
use Rattle.core_law.specs.core_events.declared.shape.Shape.{Shape}
use Rattle.core_law.specs.core_events.Views.{Terms}
use Rattle.core_law.specs.core_events.declared.view.CoreView.{CoreView}
use Rattle.core_law.specs.core_events.Good.{SeatLaw}
use Rattle.core_law.specs.core_events.Runs.{IsShape, AreTerms, taken_over}
use Rattle.core_law.specs.core_events.Steps.{CanLeave, noted}
use Rattle.core_law.specs.core_events.Views.{first_view}
use Rattle.core_law.proofs.Leaves.{taken_law}
use Rattle.core_law.proofs.Starts.{first_seat}
use Rattle.domain_rule.specs.Views.{quota_at}

pub opened_law : (z : Shape) (ts : Terms) (n : ℕ) → IsShape z → AreTerms z ts → n < z.seats
    → SeatLaw z n (first_view z n (quota_at ts.quotas n) ts.grants)
opened_law z ts n shape terms hn =
    let l = terms.0 in
    first_seat z n (quota_at ts.quotas n) ts.grants shape.0
    (terms.1 n (record { makes = 0; adds = 0 }) (omega arith))

pub joined_law : (z : Shape) (j : ℕ) (root v : CoreView) → SeatLaw z 0 root → SeatLaw z j v
    → CanLeave root → CanLeave v
    → SeatLaw z 0 (noted (act.Leave j) outcome.Plain (taken_over root v))
joined_law z j root v law0 lawj can0 canj = taken_law root v z j law0 lawj can0.0.1
