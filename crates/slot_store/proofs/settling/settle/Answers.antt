use Rattle.std.proofs.Common.{arith}
use Rattle.slot_store.proofs.Settles.{begins, collected_more, less_work_collected, less_work_reaped, reaped_more, settled_cycles, settled_knows, settled_quiet, settled_steps, settles, sum_fits}
use Rattle.slot_store.proofs.settling.settle.Goals as goal

pub loop-weight-init : goal.loop-weight-init
loop-weight-init g c =
    begins c.args.domain.now c.args.seat.now (c.alone-alone.ensures.knows c.requires.alone)
    c.requires.room c.requires.rest

pub overflow_add-weights : goal.overflow_add-weights
overflow_add-weights g c =
    let fits = sum_fits c.args.domain.now c.loop-weight.weights c.args.seat.now c.loop-weight.seat
    c.loop-weight.invariant g.met.P.Kind.PayloadKind.bounded c.in-Some.weight c.reap.new.seat
    c.in-Some.ensures.reaps in omega (arith, fits)

pub loop-weight-smaller-in-Some : goal.loop-weight-smaller-in-Some
loop-weight-smaller-in-Some g c =
    less_work_reaped c.args.domain.now c.loop-weight.weights c.args.seat.now c.loop-weight.seat
    c.loop-weight.invariant g.met.P.Kind.PayloadKind.bounded c.in-Some.weight c.reap.new.seat
    c.in-Some.ensures.reaps

pub loop-weight-preserved-in-Some : goal.loop-weight-preserved-in-Some
loop-weight-preserved-in-Some g c =
    reaped_more c.args.domain.now c.loop-weight.weights c.args.seat.now c.loop-weight.seat
    c.loop-weight.invariant g.met.P.Kind.PayloadKind.bounded c.in-Some.weight c.reap.new.seat
    c.in-Some.ensures.reaps c.reap.ensures.client c.reap.ensures.room c.reap.ensures.rest

pub returns-then-not-gathers-clause-settles : goal.returns-then-not-gathers-clause-settles
returns-then-not-gathers-clause-settles g c =
    settles c.args.domain.now c.loop-weight.weights c.args.seat.now c.loop-weight.seat
    c.loop-weight.invariant c.reap.new.seat c.in_default.ensures.reaps c.reap.ensures.client
    c.reap.ensures.room c.reap.ensures.rest c.gathers.new.seat c.if-not-gathers.ensures

pub returns-then-not-gathers-clause-objects : goal.returns-then-not-gathers-clause-objects
returns-then-not-gathers-clause-objects g c =
    settled_knows c.args.domain.now c.loop-weight.weights c.args.seat.now c.loop-weight.seat
    c.loop-weight.invariant c.reap.new.seat c.in_default.ensures.reaps c.reap.ensures.client
    c.reap.ensures.room c.reap.ensures.rest c.gathers.new.seat c.if-not-gathers.ensures

pub returns-then-not-gathers-clause-steps : goal.returns-then-not-gathers-clause-steps
returns-then-not-gathers-clause-steps g c =
    settled_steps c.args.domain.now c.loop-weight.weights c.args.seat.now c.loop-weight.seat
    c.loop-weight.invariant c.reap.new.seat c.in_default.ensures.reaps c.reap.ensures.client
    c.reap.ensures.room c.reap.ensures.rest c.gathers.new.seat c.if-not-gathers.ensures
    c.reap.ensures.idle

pub returns-then-not-gathers-clause-quiet : goal.returns-then-not-gathers-clause-quiet
returns-then-not-gathers-clause-quiet g c =
    settled_quiet c.args.domain.now c.loop-weight.weights c.args.seat.now c.loop-weight.seat
    c.loop-weight.invariant c.reap.new.seat c.in_default.ensures.reaps c.reap.ensures.client
    c.reap.ensures.room c.reap.ensures.rest c.gathers.new.seat c.if-not-gathers.ensures

pub returns-then-not-gathers-clause-cycles : goal.returns-then-not-gathers-clause-cycles
returns-then-not-gathers-clause-cycles g c =
    settled_cycles c.args.domain.now c.loop-weight.weights c.args.seat.now c.loop-weight.seat
    c.loop-weight.invariant c.reap.new.seat c.in_default.ensures.reaps c.reap.ensures.client
    c.reap.ensures.room c.reap.ensures.rest c.gathers.new.seat c.if-not-gathers.ensures

pub loop-weight-smaller : goal.loop-weight-smaller
loop-weight-smaller g c =
    less_work_collected c.args.domain.now c.loop-weight.weights c.args.seat.now c.loop-weight.seat
    c.loop-weight.invariant c.reap.new.seat c.in_default.ensures.reaps c.reap.ensures.client
    c.reap.ensures.room c.reap.ensures.rest c.gathers.new.seat c.if-not-gathers.ensures

pub loop-weight-preserved : goal.loop-weight-preserved
loop-weight-preserved g c =
    collected_more c.args.domain.now c.loop-weight.weights c.args.seat.now c.loop-weight.seat
    c.loop-weight.invariant c.reap.new.seat c.in_default.ensures.reaps c.reap.ensures.client
    c.reap.ensures.room c.reap.ensures.rest c.gathers.new.seat c.if-not-gathers.ensures
