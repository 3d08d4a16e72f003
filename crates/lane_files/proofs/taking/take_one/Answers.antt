use Rattle.lane_files.proofs.SeatsKept.{free_still, owns_queue}
use Rattle.lane_files.proofs.Taken.{finds_as, has_popped, none_counts, none_interns, none_owns, none_ready, pops_as, spent_so, took_interns, took_none, took_ok, took_owns, took_ready}
use Rattle.lane_files.specs.Whys.{queue_of}
use Rattle.lane_files.proofs.taking.take_one.Goals as goal

pub tally_item-requires-clause-free : goal.tally_item-requires-clause-free
tally_item-requires-clause-free g c =
    free_still c.args.seat.now c.pop.new.seat
    (owns_queue c.args.seat.now c.pop.new.seat c.pop.ensures.popped.leaves) c.requires.ready.free

pub tally_item-requires-clause-popped : goal.tally_item-requires-clause-popped
tally_item-requires-clause-popped g c =
    has_popped c.in-Ok-Some.item.slot c.args.seat.now c.pop.new.seat
    (pops_as c.args.seat.now c.pop.new.seat c.in-Ok-Some.field-0-is
    c.in-Ok-Some.ensures.popped) c.pop.ensures.beside

pub returns-in_err-tally_item-in-Ok-Some-clause-owns : goal.returns-in_err-tally_item-in-Ok-Some-clause-owns
returns-in_err-tally_item-in-Ok-Some-clause-owns g c =
    took_owns c.in-Ok-Some.item.slot c.args.seat.now c.pop.new.seat (pops_as c.args.seat.now c.pop.new.seat c.in-Ok-Some.field-0-is
    c.in-Ok-Some.ensures.popped)
    c.pop.ensures.beside c.tally_item.new.seat c.tally_item.ensures.only c.tally_item.ensures.owns

pub returns-in_err-tally_item-in-Ok-Some-clause-ready : goal.returns-in_err-tally_item-in-Ok-Some-clause-ready
returns-in_err-tally_item-in-Ok-Some-clause-ready g c =
    took_ready c.in-Ok-Some.item.slot c.args.seat.now c.pop.new.seat (pops_as c.args.seat.now c.pop.new.seat c.in-Ok-Some.field-0-is
    c.in-Ok-Some.ensures.popped)
    c.pop.ensures.beside c.tally_item.new.seat c.tally_item.ensures.only c.requires.ready
    c.pop.ensures.attached c.tally_item.ensures.owns c.tally_item.ensures.room
    c.tally_item.ensures.rest

pub returns-in_ok-tally_item-in-Ok-Some-clause-takes : goal.returns-in_ok-tally_item-in-Ok-Some-clause-takes
returns-in_ok-tally_item-in-Ok-Some-clause-takes g c =
    took_ok c.in-Ok-Some.item.slot c.args.seat.now c.pop.new.seat (pops_as c.args.seat.now c.pop.new.seat c.in-Ok-Some.field-0-is
    c.in-Ok-Some.ensures.popped)
    c.pop.ensures.beside c.tally_item.new.seat c.tally_item.ensures.only c.tally_item.result
    c.args.tally.now c.tally_item.new.tally c.tally_item.ensures.counts _
    c.in_ok-tally_item-in-Ok-Some.was

pub returns-in_ok-tally_item-in-Ok-Some-clause-owns : goal.returns-in_ok-tally_item-in-Ok-Some-clause-owns
returns-in_ok-tally_item-in-Ok-Some-clause-owns g c =
    took_owns c.in-Ok-Some.item.slot c.args.seat.now c.pop.new.seat (pops_as c.args.seat.now c.pop.new.seat c.in-Ok-Some.field-0-is
    c.in-Ok-Some.ensures.popped)
    c.pop.ensures.beside c.tally_item.new.seat c.tally_item.ensures.only c.tally_item.ensures.owns

pub returns-in_ok-tally_item-in-Ok-Some-clause-ready : goal.returns-in_ok-tally_item-in-Ok-Some-clause-ready
returns-in_ok-tally_item-in-Ok-Some-clause-ready g c =
    took_ready c.in-Ok-Some.item.slot c.args.seat.now c.pop.new.seat (pops_as c.args.seat.now c.pop.new.seat c.in-Ok-Some.field-0-is
    c.in-Ok-Some.ensures.popped)
    c.pop.ensures.beside c.tally_item.new.seat c.tally_item.ensures.only c.requires.ready
    c.pop.ensures.attached c.tally_item.ensures.owns c.tally_item.ensures.room
    c.tally_item.ensures.rest

pub returns-in-Ok-None-clause-takes : goal.returns-in-Ok-None-clause-takes
returns-in-Ok-None-clause-takes g c =
    none_counts c.args.seat.now c.pop.new.seat (pops_as c.args.seat.now c.pop.new.seat
    c.in-Ok-None.field-0-is c.in-Ok-None.ensures.popped) c.pop.ensures.beside
    c.args.tally.now

pub returns-in-Ok-None-clause-owns : goal.returns-in-Ok-None-clause-owns
returns-in-Ok-None-clause-owns g c =
    none_owns c.args.seat.now c.pop.new.seat (pops_as c.args.seat.now c.pop.new.seat
    c.in-Ok-None.field-0-is c.in-Ok-None.ensures.popped) c.pop.ensures.beside

pub returns-in-Ok-None-clause-ready : goal.returns-in-Ok-None-clause-ready
returns-in-Ok-None-clause-ready g c =
    none_ready c.args.seat.now c.pop.new.seat (pops_as c.args.seat.now c.pop.new.seat
    c.in-Ok-None.field-0-is c.in-Ok-None.ensures.popped) c.pop.ensures.beside
    c.requires.ready c.pop.ensures.attached c.pop.ensures.room c.pop.ensures.rest

pub returns-in-Ok-None-clause-none : goal.returns-in-Ok-None-clause-none
returns-in-Ok-None-clause-none g c = λ is.
    finds_as _ (queue_of c.args.domain.now) c.args.seat.now c.pop.new.seat
    c.in-Ok-None.field-0-is c.in-Ok-None.ensures.events

pub returns-in-Ok-None-clause-interns : goal.returns-in-Ok-None-clause-interns
returns-in-Ok-None-clause-interns g c =
    none_interns c.args.seat.now c.pop.new.seat (pops_as c.args.seat.now c.pop.new.seat
    c.in-Ok-None.field-0-is c.in-Ok-None.ensures.popped) c.pop.ensures.beside

pub returns-in-Err-clause-why : goal.returns-in-Err-clause-why
returns-in-Err-clause-why g c =
    spent_so c.args.seat.now c.pop.new.seat c.in-Err.ensures.popped c.pop.ensures.beside
    c.in-Err.ensures.why c.args.tally.now

pub returns-in-Err-clause-interns : goal.returns-in-Err-clause-interns
returns-in-Err-clause-interns g c =
    none_interns c.args.seat.now c.pop.new.seat c.in-Err.ensures.popped c.pop.ensures.beside

pub returns-in_err-tally_item-in-Ok-Some-clause-interns : goal.returns-in_err-tally_item-in-Ok-Some-clause-interns
returns-in_err-tally_item-in-Ok-Some-clause-interns g c =
    took_interns c.in-Ok-Some.item.slot c.args.seat.now c.pop.new.seat
    (pops_as c.args.seat.now c.pop.new.seat c.in-Ok-Some.field-0-is
    c.in-Ok-Some.ensures.popped)
    c.pop.ensures.beside c.tally_item.new.seat c.tally_item.ensures.only

pub returns-in_ok-tally_item-in-Ok-Some-clause-interns : goal.returns-in_ok-tally_item-in-Ok-Some-clause-interns
returns-in_ok-tally_item-in-Ok-Some-clause-interns g c =
    took_interns c.in-Ok-Some.item.slot c.args.seat.now c.pop.new.seat
    (pops_as c.args.seat.now c.pop.new.seat c.in-Ok-Some.field-0-is
    c.in-Ok-Some.ensures.popped)
    c.pop.ensures.beside c.tally_item.new.seat c.tally_item.ensures.only

pub returns-in_err-tally_item-in-Ok-Some-clause-why : goal.returns-in_err-tally_item-in-Ok-Some-clause-why
returns-in_err-tally_item-in-Ok-Some-clause-why g c =
    took_none c.in-Ok-Some.item.slot c.args.seat.now c.pop.new.seat
    (pops_as c.args.seat.now c.pop.new.seat c.in-Ok-Some.field-0-is
    c.in-Ok-Some.ensures.popped)
    c.pop.ensures.beside c.tally_item.new.seat c.tally_item.ensures.only c.tally_item.result
    c.args.tally.now c.tally_item.new.tally c.tally_item.ensures.counts _
    c.in_err-tally_item-in-Ok-Some.was c.from_residual.result c.from_residual.ensures.1

pub returns-in-Err-clause-owns : goal.returns-in-Err-clause-owns
returns-in-Err-clause-owns g c =
    none_owns c.args.seat.now c.pop.new.seat c.in-Err.ensures.popped c.pop.ensures.beside
