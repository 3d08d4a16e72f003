use Rattle.std.specs.Prelude.{Some}
use Rattle.acquire_retire.specs.Calls.{aimed}
use Rattle.acquire_retire.proofs.domain.Domain.destroy.Given as goal

abbrev pub ghosts-fetch_sub_as : goal.ghosts-fetch_sub_as
ghosts-fetch_sub_as g a = record { aim = Some (aimed a.self.now a.deed a.act) }
