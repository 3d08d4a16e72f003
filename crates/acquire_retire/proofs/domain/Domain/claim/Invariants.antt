use Rattle.std.specs.Prelude.{Some}
use Rattle.acquire_retire.specs.Calls.{aimed}
use Rattle.acquire_retire.proofs.domain.Domain.claim.Given as goal

abbrev pub ghosts-fetch_and_as : goal.ghosts-fetch_and_as
ghosts-fetch_and_as g a = record { aim = Some (aimed a.self.now a.deed a.act) }
