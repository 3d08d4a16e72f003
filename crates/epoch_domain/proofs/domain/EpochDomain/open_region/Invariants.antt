use Rattle.std.specs.Prelude.{Some}
use Rattle.epoch_domain.specs.Calls.{aimed}
use Rattle.epoch_domain.proofs.domain.EpochDomain.open_region.Given as goal

abbrev pub ghosts-load_as : goal.ghosts-load_as
ghosts-load_as g a = record { aim = Some (aimed a.self.now a.deed a.act) }

abbrev pub ghosts-store_as : goal.ghosts-store_as
ghosts-store_as g a = record { aim = Some (aimed a.self.now a.deed a.act) }
