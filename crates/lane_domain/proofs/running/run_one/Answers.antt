use Rattle.std.proofs.Common.{◌∙◌}
use Rattle.lane_domain.proofs.Begun.{attaches_by, beside_begun, ready_by}
use Rattle.lane_domain.proofs.Ended.{runs_beside, runs_by}
use Rattle.lane_domain.proofs.running.run_one.Goals as goal

pub run_lane-end-requires-clause-ready : goal.run_lane-end-requires-clause-ready
run_lane-end-requires-clause-ready g c =
    ready_by c.args.domain.now c.args.shared.now c.args.job.seat c.attach.new.seat
    c.requires.begin c.attach.ensures.attached c.attach.ensures.leaves c.attach.ensures.beside
    c.attach.ensures.rest c.attach.ensures.room

pub returns : goal.returns
returns g c =
    let d = c.args.domain.now in let seat = c.args.job.seat in let begun = c.attach.new.seat in
    let runs = runs_by _ d c.args.work.now c.run_lane-end.result begun c.run_lane-end.new.seat
    c.new-lane.result c.run_lane-end.new.lane c.run_lane-end.ensures.runs
    c.run_lane-end.ensures.why in
    record {
      begun = begun;
      lane = c.new-lane.result;
      is_new = record {
        number = c.new-lane.ensures.number.0;
        turn = c.new-lane.ensures.number.1;
        counts = c.new-lane.ensures.counts;
        total = c.new-lane.ensures.total;
        kept = c.new-lane.ensures.kept;
      };
      attaches = attaches_by d c.args.shared.now seat begun c.requires.begin
          c.attach.ensures.attached c.attach.ensures.leaves c.attach.ensures.beside _
          c.attach.ensures.looks c.attach.ensures.makes;
      runs = runs;
      same = runs_beside _ d c.args.work.now c.run_lane-end.result begun c.run_lane-end.new.seat
          c.new-lane.result c.run_lane-end.new.lane runs
          ∙ beside_begun d c.args.shared.now seat begun c.requires.begin
          c.attach.ensures.attached c.attach.ensures.leaves c.attach.ensures.beside;
      ready = c.run_lane-end.ensures.ready;
    }
