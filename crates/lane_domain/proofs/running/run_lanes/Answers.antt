use Rattle.lane_domain.specs.Beginning.{CanBegin}
use Rattle.lane_domain.proofs.Threads.{all_jobs, end_all}
use Rattle.lane_domain.proofs.running.run_lanes.Goals as goal

pub run_jobs-requires-clause-begin : goal.run_jobs-requires-clause-begin
run_jobs-requires-clause-begin g c κs within =
    all_jobs (CanBegin c.args.domain.now c.args.shared.now) c.args.seats.items
    c.in_ok-jobs.jobs.items c.in_ok-jobs.ensures c.requires.begin

pub returns : goal.returns
returns g c =
    end_all _ c.args.domain.now c.args.shared.now c.args.work.now c.args.seats.items
    c.in_ok-jobs.jobs.items c.in_ok-ends.ends.items c.in_ok-jobs.ensures c.in_ok-ends.ensures
