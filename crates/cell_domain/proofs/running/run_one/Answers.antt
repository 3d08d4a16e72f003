use Rattle.std.proofs.Common.{sym, subst}
use Rattle.std.specs.Prelude.{length}
use Rattle.cell_lanes.specs.Ready.{CanCount}
use Rattle.cell_domain.specs.Opened.{lane_words}
use Rattle.cell_domain.proofs.Room.{can_count, runs_by}
use Rattle.cell_domain.proofs.running.run_one.Goals as goal

pub run_lane-end-requires-clause-room : goal.run_lane-end-requires-clause-room
run_lane-end-requires-clause-room g c =
    let new = c.new-lane.ensures in let here = c.requires.here in
    subst (λ n. CanCount (length (lane_words c.args.work.now c.args.lanes n)) c.args.job.seat
    c.new-lane.result)
    (sym new.number.0)
    (can_count c.args.work.now c.args.lanes c.args.job.number c.requires.job.one
    c.args.domain.now.shape.slots c.args.domain.now c.args.job.seat c.new-lane.result here.within
    here.domain c.requires.job.begins (record {
      number = new.number.0;
      turn = new.number.1;
      counts = new.counts;
      total = new.total;
      kept = new.kept;
    }))

pub returns : goal.returns
returns g c =
    let new = c.new-lane.ensures in let run = c.run_lane-end.ensures in record {
      lane = c.new-lane.result;
      is_new = record {
        number = new.number.0;
        turn = new.number.1;
        counts = new.counts;
        total = new.total;
        kept = new.kept;
      };
      runs = runs_by c.args.domain.now c.args.work.now c.args.lanes c.args.job.number
          c.new-lane.result.number c.run_lane-end.result c.args.job.seat c.run_lane-end.new.seat
          c.new-lane.result c.run_lane-end.new.lane new.number.0 run.counts run.stops;
      ready = run.ready;
    }
