use Rattle.std.proofs.Common.{◌+◌, refl, arith}
use Rattle.std.proofs.lemmas.Result.{err_from_is_err_and}
use Rattle.lane_files.proofs.Runs.{has_none, runs_counted, runs_on, runs_over, runs_past, runs_spent, runs_stop, tickets_few}
use Rattle.lane_files.proofs.drawing.run_lane.Goals as goal

pub loop-draw-init : goal.loop-draw-init
loop-draw-init g c = record {
  ready = c.requires.ready;
  run = has_none c.args.work.now c.args.seat.now c.args.lane.now;
  turn = omega arith;
}

pub returns-in_err-ticket-clause-why : goal.returns-in_err-ticket-clause-why
returns-in_err-ticket-clause-why g c =
    let p = err_from_is_err_and c.from_residual.result c.from_residual.ensures.1 in
    rw (p.1, p.2)
    (runs_spent _ c.args.domain.now c.args.work.now c.loop-draw._draw c.args.seat.now
    c.loop-draw.seat c.draw.new.seat c.args.lane.now c.loop-draw.lane c.loop-draw.invariant.run
    (c.in_err-ticket.ensures.spent.0 refl) c.in_err-ticket.ensures.refused)

pub returns-then-ticket-tickets-clause-runs : goal.returns-then-ticket-tickets-clause-runs
returns-then-ticket-tickets-clause-runs g c =
    runs_past c.args.domain.now c.args.work.now c.loop-draw._draw c.args.seat.now
    c.loop-draw.seat c.draw.new.seat c.args.lane.now c.loop-draw.lane c.loop-draw.invariant.run
    c.in_ok-ticket.ticket c.in_ok-ticket.ensures.draws
    (let t = c.if-ticket-tickets.true in let e = c.tickets.ensures in omega (arith, t))

pub count_ticket-requires-clause-few : goal.count_ticket-requires-clause-few
count_ticket-requires-clause-few g c =
    let most = runs_counted c.args.work.now c.requires.work c.loop-draw._draw c.args.seat.now
    c.loop-draw.seat c.args.lane.now c.loop-draw.lane c.loop-draw.invariant.run in
    let few = c.requires.few in let end = c.loop-draw-test.true in
    let all = tickets_few c.args.work.now c.requires.work in omega (arith, end)

pub returns-in_err-count_ticket-clause-why : goal.returns-in_err-count_ticket-clause-why
returns-in_err-count_ticket-clause-why g c =
    let p = err_from_is_err_and c.from_residual-in_err-count_ticket.result
    c.from_residual-in_err-count_ticket.ensures.1 in
    rw (p.1, p.2)
    (runs_stop c.args.domain.now c.args.work.now c.loop-draw._draw c.args.seat.now
    c.loop-draw.seat c.draw.new.seat c.args.lane.now c.loop-draw.lane c.loop-draw.invariant.run
    c.in_ok-ticket.ticket c.in_ok-ticket.ensures.draws
    (let t = c.if-ticket-tickets.false in let e = c.tickets.ensures in omega (arith, t))
    _ c.count_ticket.new.seat c.count_ticket.new.lane c.in_err-count_ticket.field-0.0
    c.in_err-count_ticket.ensures.why)

pub loop-draw-preserved : goal.loop-draw-preserved
loop-draw-preserved g c = record {
  ready = c.count_ticket.ensures.ready;
  run = runs_on c.args.domain.now c.args.work.now c.loop-draw._draw c.args.seat.now
      c.loop-draw.seat c.draw.new.seat c.args.lane.now c.loop-draw.lane c.loop-draw.invariant.run
      c.in_ok-ticket.ticket c.in_ok-ticket.ensures.draws
      (let t = c.if-ticket-tickets.false in let e = c.tickets.ensures in omega (arith, t))
      c.count_ticket.new.seat c.count_ticket.new.lane c.in_ok-count_ticket.ensures.counts
      c.in_ok-count_ticket.ensures.tickets;
  turn = let t = c.in_ok-count_ticket.ensures.turn in let u = c.loop-draw.invariant.turn in
      omega arith;
}

pub returns-in_ok-count_ticket-clause-runs : goal.returns-in_ok-count_ticket-clause-runs
returns-in_ok-count_ticket-clause-runs g c =
    runs_over c.args.work.now (c.loop-draw._draw + 1) c.args.seat.now c.count_ticket.new.seat
    c.args.lane.now c.count_ticket.new.lane
    (runs_on c.args.domain.now c.args.work.now c.loop-draw._draw c.args.seat.now
    c.loop-draw.seat c.draw.new.seat c.args.lane.now c.loop-draw.lane c.loop-draw.invariant.run
    c.in_ok-ticket.ticket c.in_ok-ticket.ensures.draws
    (let t = c.if-ticket-tickets.false in let e = c.tickets.ensures in omega (arith, t))
    c.count_ticket.new.seat c.count_ticket.new.lane c.in_ok-count_ticket.ensures.counts
    c.in_ok-count_ticket.ensures.tickets)
    (let e = c.tickets-draw-end.ensures in omega arith)
