use Rattle.plain_settling.proofs.Settling.{tidies_on}
use Rattle.plain_settling.proofs.laws.settling_goes_on.Goals as goal

pub returns : goal.returns
returns c = tidies_on
