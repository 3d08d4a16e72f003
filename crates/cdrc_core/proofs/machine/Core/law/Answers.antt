use Rattle.cdrc_core.proofs.Starting.{core_good}
use Rattle.cdrc_core.proofs.machine.Core.law.Goals as goal

pub returns : goal.returns
returns c = record {
  good = rw (← c.self.view_is) (core_good _ _ c.self.invariant);
  sound = rw (← c.self.view_is) c.self.invariant.sound;
}
