use Rattle.std.specs.Prelude.{Some}
use Rattle.acquire_retire.specs.Calls.{aimed}
use Rattle.acquire_retire.proofs.domain.Domain.swap.Given as goal

abbrev pub ghosts-swap_as : goal.ghosts-swap_as
ghosts-swap_as g a = record { aim = Some (aimed a.self.now a.deed a.act) }
