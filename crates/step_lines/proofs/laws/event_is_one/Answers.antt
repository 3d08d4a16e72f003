use Rattle.step_lines.proofs.Unique.{one-event}
use Rattle.step_lines.proofs.laws.event_is_one.Goals as goal

pub returns : goal.returns
returns c = one-event
