use Rattle.std.specs.Prelude.{Some}
use Rattle.acquire_retire.proofs.domain.Domain.open_another.Given as goal

abbrev pub ghosts-open_another_as : goal.ghosts-open_another_as
ghosts-open_another_as g a = record { site = Some a.self.now }
