use Rattle.std.proofs.Common.{true, false, arith}
use Rattle.std.proofs.lemmas.Result.{err_from_is_err_and}
use Rattle.cell_lanes.proofs.Runs.{runs_end, runs_none, runs_on, runs_past, runs_room, runs_stop, taken_as}
use Rattle.cell_lanes.proofs.lanes.run_lane.Goals as goal

pub loop-ticket-init : goal.loop-ticket-init
loop-ticket-init g c = record {
  ready = c.requires.ready;
  counts = runs_none c.args.domain.now c.args.work.now c.args.lanes c.args.lane.now.number
      c.args.seat.now c.args.lane.now;
}

pub loop-ticket-preserved-then-not-is_of_lane : goal.loop-ticket-preserved-then-not-is_of_lane
loop-ticket-preserved-then-not-is_of_lane g c =
    let run = c.loop-ticket.invariant.counts in record {
      ready = c.loop-ticket.invariant.ready;
      counts = runs_past c.args.domain.now c.args.work.now c.args.lanes c.args.lane.now.number
          c.loop-ticket.ticket c.args.seat.now c.loop-ticket.seat c.args.lane.now
          c.loop-ticket.lane run
          (taken_as c.args.work.now c.args.lanes c.loop-ticket.lane.number c.args.lane.now.number
          c.loop-ticket.ticket false run.counts.number c.if-not-is_of_lane.ensures);
    }

pub count_ticket-requires-clause-room : goal.count_ticket-requires-clause-room
count_ticket-requires-clause-room g c =
    let run = c.loop-ticket.invariant.counts in
    runs_room c.args.domain.now c.args.work.now c.args.lanes c.args.lane.now.number
    c.loop-ticket.ticket c.args.seat.now c.loop-ticket.seat c.args.lane.now c.loop-ticket.lane run
    (taken_as c.args.work.now c.args.lanes c.loop-ticket.lane.number c.args.lane.now.number
    c.loop-ticket.ticket true run.counts.number c.if-not-is_of_lane.ensures)
    (let t = c.loop-ticket-test.true in let e = c.tickets-ticket-end.ensures in omega (arith, t))
    c.requires.room

pub returns-in_err-count_ticket-clause-stops : goal.returns-in_err-count_ticket-clause-stops
returns-in_err-count_ticket-clause-stops g c =
    let p = err_from_is_err_and c.from_residual.result c.from_residual.ensures.1 in
    let run = c.loop-ticket.invariant.counts in
    rw (p.1, p.2)
    (runs_stop c.args.domain.now c.args.work.now c.args.lanes c.args.lane.now.number
    c.loop-ticket.ticket c.args.seat.now c.loop-ticket.seat c.args.lane.now c.loop-ticket.lane run
    (taken_as c.args.work.now c.args.lanes c.loop-ticket.lane.number c.args.lane.now.number
    c.loop-ticket.ticket true run.counts.number c.if-not-is_of_lane.ensures)
    (let t = c.loop-ticket-test.true in let e = c.tickets-ticket-end.ensures in omega (arith, t))
    c.in_err-count_ticket.field-0.0 c.count_ticket.new.seat c.count_ticket.new.lane
    c.in_err-count_ticket.ensures.stops)

pub loop-ticket-preserved : goal.loop-ticket-preserved
loop-ticket-preserved g c =
    let run = c.loop-ticket.invariant.counts in record {
      ready = c.count_ticket.ensures.ready;
      counts = runs_on c.args.domain.now c.args.work.now c.args.lanes c.args.lane.now.number
          c.loop-ticket.ticket c.args.seat.now c.loop-ticket.seat c.args.lane.now
          c.loop-ticket.lane run
          (taken_as c.args.work.now c.args.lanes c.loop-ticket.lane.number c.args.lane.now.number
          c.loop-ticket.ticket true run.counts.number c.if-not-is_of_lane.ensures)
          c.count_ticket.new.seat c.count_ticket.new.lane c.in_ok-count_ticket.ensures.counts;
    }

pub returns-clause-counts : goal.returns-clause-counts
returns-clause-counts g c =
    runs_end c.args.domain.now c.args.work.now c.args.lanes c.args.lane.now.number
    c.loop-ticket.ticket c.args.seat.now c.loop-ticket.seat c.args.lane.now c.loop-ticket.lane
    c.loop-ticket.invariant.counts
    (let t = c.loop-ticket-test.false in let e = c.tickets-ticket-end.ensures in
    let l = c.loop-ticket.auto.ticket-end in omega (arith, t, l))
