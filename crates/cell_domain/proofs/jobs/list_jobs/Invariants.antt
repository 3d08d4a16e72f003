use Rattle.std.proofs.Common.{◌≡◌}
use Rattle.std.specs.Prelude.{drop}
use Rattle.cell_domain.specs.Jobs.{AreJobs}
use Rattle.cell_domain.proofs.jobs.list_jobs.Given as goal

abbrev pub invariant-loop-number : goal.invariant-loop-number
invariant-loop-number l =
    AreJobs l.number l.fn.seats.items l.jobs.items
    × (l.seats.items ≡ drop l.number l.fn.seats.items)
