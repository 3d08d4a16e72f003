use Rattle.std.specs.Prelude.{Some}
use Rattle.epoch_domain.specs.Calls.{aimed}
use Rattle.epoch_domain.proofs.domain.EpochDomain.drop.Given as goal

abbrev pub ghosts-fetch_sub_as : goal.ghosts-fetch_sub_as
ghosts-fetch_sub_as g a = record { aim = Some (aimed a.self.now a.deed a.act) }
