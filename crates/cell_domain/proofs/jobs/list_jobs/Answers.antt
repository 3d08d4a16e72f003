use Rattle.std.proofs.Common.{◌+◌, ◌<◌, sym, ap, subst, ◌∙◌, arith}
use Rattle.std.specs.Prelude.{length}
use Rattle.std.specs.List.{remove}
use Rattle.cell_domain.specs.Jobs.{AreJobs}
use Rattle.cell_domain.proofs.Listed.{drop_one, first_of, one_job}
use Rattle.cell_domain.proofs.jobs.list_jobs.Goals as goal

pub loop-number-preserved : goal.loop-number-preserved
loop-number-preserved c =
    let n = c.loop-number.number in let seats = c.args.seats.items in
    let before = c.loop-number.invariant in let taken = c.remove-seat.result in
    let test = c.loop-number-test.true in let end = c.len-number-end.ensures in
    let ok = c.args.seats.ok.0 in let less : n < length seats = omega arith in (
      subst (AreJobs (n + 1) seats) (sym c.in_ok-push.ensures.items)
          (one_job n seats c.loop-number.jobs.items before.0 less taken
          (λ other. first_of seats c.loop-number.seats.items n taken other before.1 less
          c.remove-seat.ensures.value)),
      c.remove-seat.ensures.items ∙ ap (λ xs. remove xs 0) before.1 ∙ drop_one n seats,
    )
