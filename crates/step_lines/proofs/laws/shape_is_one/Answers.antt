use Rattle.step_lines.proofs.Unique.{one-shape}
use Rattle.step_lines.proofs.laws.shape_is_one.Goals as goal

pub returns : goal.returns
returns c = one-shape
