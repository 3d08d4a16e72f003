use Rattle.std.specs.Prelude.{Some}
use Rattle.epoch_domain.proofs.domain.EpochDomain.read.Given as goal

abbrev pub ghosts-read_as : goal.ghosts-read_as
ghosts-read_as g a = record { site = Some a.self.now }
