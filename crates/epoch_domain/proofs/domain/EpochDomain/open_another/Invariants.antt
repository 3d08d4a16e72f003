use Rattle.std.specs.Prelude.{Some}
use Rattle.epoch_domain.proofs.domain.EpochDomain.open_another.Given as goal

abbrev pub ghosts-open_another_as : goal.ghosts-open_another_as
ghosts-open_another_as g a = record { site = Some a.self.now }
