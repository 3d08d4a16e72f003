use Rattle.std.specs.Prelude.{Some}
use Rattle.epoch_domain.specs.Calls.{aimed}
use Rattle.epoch_domain.proofs.domain.EpochDomain.advance.Given as goal

abbrev pub ghosts-compare_exchange_as : goal.ghosts-compare_exchange_as
ghosts-compare_exchange_as g a = record { aim = Some (aimed a.self.now a.deed a.act) }
