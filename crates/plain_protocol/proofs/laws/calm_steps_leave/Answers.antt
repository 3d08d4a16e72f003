use Rattle.plain_protocol.proofs.laws.calm_steps_leave.Goals as goal
use Rattle.plain_protocol.proofs.Calm.{calm_leaves}

pub returns : goal.returns
returns c = calm_leaves
