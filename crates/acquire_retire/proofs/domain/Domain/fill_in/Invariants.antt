use Rattle.std.specs.Prelude.{Some}
use Rattle.acquire_retire.specs.Calls.{aimed}
use Rattle.acquire_retire.proofs.domain.Domain.fill_in.Given as goal

abbrev pub ghosts-store_as : goal.ghosts-store_as
ghosts-store_as g a = record { aim = Some (aimed a.self.now a.deed a.act) }
