use Rattle.std.specs.Prelude.{All}
use Rattle.structure_tests.specs.Ready.{IsNew}
use Rattle.structure_tests.proofs.jobs.give_jobs.Given as goal

abbrev pub invariant-loop-sender : goal.invariant-loop-sender
invariant-loop-sender l =
    All (IsNew l.domain) l.seats.items × All (λ job. IsNew l.domain job.seat) l.jobs.items
