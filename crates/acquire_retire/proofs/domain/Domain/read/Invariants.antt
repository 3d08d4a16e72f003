use Rattle.std.specs.Prelude.{Some}
use Rattle.acquire_retire.proofs.domain.Domain.read.Given as goal

abbrev pub ghosts-read_as : goal.ghosts-read_as
ghosts-read_as g a = record { site = Some a.self.now }
