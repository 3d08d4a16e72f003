use Rattle.std.specs.Prelude.{Some}
use Rattle.epoch_domain.specs.Calls.{aimed}
use Rattle.epoch_domain.proofs.domain.EpochDomain.add.Given as goal

abbrev pub ghosts-fetch_add_as : goal.ghosts-fetch_add_as
ghosts-fetch_add_as g a = record { aim = Some (aimed a.self.now a.deed a.act) }
