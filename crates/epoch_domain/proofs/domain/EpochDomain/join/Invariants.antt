use Rattle.std.specs.Prelude.{Some}
use Rattle.epoch_domain.proofs.domain.EpochDomain.join.Given as goal

abbrev pub ghosts-join_as : goal.ghosts-join_as
ghosts-join_as g a = record { site = Some a.self.now }
