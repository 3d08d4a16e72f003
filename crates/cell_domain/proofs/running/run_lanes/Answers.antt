use Rattle.cell_domain.proofs.Threads.{all_jobs, end_all}
use Rattle.cell_domain.proofs.running.run_lanes.Goals as goal

pub run_jobs-requires-clause-jobs : goal.run_jobs-requires-clause-jobs
run_jobs-requires-clause-jobs g c κs within =
    all_jobs c.args.domain.now c.args.lanes c.args.seats.items c.in_ok-jobs.jobs.items
    c.in_ok-jobs.ensures c.requires.seats

pub returns : goal.returns
returns g c =
    end_all c.args.domain.now c.args.work.now c.args.lanes c.args.seats.items
    c.in_ok-jobs.jobs.items c.in_ok-ends.ends.items c.in_ok-jobs.ensures c.in_ok-ends.ensures
