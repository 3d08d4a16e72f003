use Rattle.std.specs.Prelude.{Some}
use Rattle.epoch_domain.specs.Calls.{aimed}
use Rattle.epoch_domain.proofs.domain.EpochDomain.swap.Given as goal

abbrev pub ghosts-swap_as : goal.ghosts-swap_as
ghosts-swap_as g a = record { aim = Some (aimed a.self.now a.deed a.act) }
