use Rattle.std.proofs.Common.{arith}
use Rattle.cell_domain.proofs.running.run_jobs.Goals as goal

pub returns : goal.returns
returns g c = record {
  many =
      let len = c.in_ok-ends.ensures.len in let ends = c.in_ok-ends.ends.ok.0 in
      let jobs = c.args.jobs.ok.0 in
      omega arith;
  each = λ i ending less.
      let given = (c.in_ok-ends.ensures.each i ending less).1 in
      (given.job, given.job_is, given.call.met);
}
