use Rattle.plain_store.proofs.Ejecting.{ejects_as_announced}
use Rattle.plain_store.proofs.laws.settling_ejects_as_announced.Goals as goal

pub returns : goal.returns
returns c = ejects_as_announced
