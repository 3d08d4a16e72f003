use Rattle.sticky_count.proofs.Atomic.{running}
use Rattle.sticky_count.proofs.laws.sound_while_running.Goals as goal

pub returns : goal.returns
returns c = running
