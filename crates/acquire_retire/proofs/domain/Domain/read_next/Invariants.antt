use Rattle.std.specs.Prelude.{Some}
use Rattle.acquire_retire.specs.Calls.{aimed}
use Rattle.acquire_retire.proofs.domain.Domain.read_next.Given as goal

abbrev pub ghosts-load_as : goal.ghosts-load_as
ghosts-load_as g a = record { aim = Some (aimed a.self.now a.deed a.act) }
