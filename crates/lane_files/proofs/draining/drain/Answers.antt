use Rattle.std.proofs.Common.{refl, ap, ◌∙◌, arith}
use Rattle.std.specs.Prelude.{Ok}
use Rattle.lane_files.proofs.PiecesCounted.{takes_last, takes_next, takes_none}
use Rattle.lane_files.proofs.SeatsKept.{owns_none, owns_on, uses_none, uses_then}
use Rattle.lane_files.proofs.draining.drain.Goals as goal

pub loop-taken-init : goal.loop-taken-init
loop-taken-init g c = record {
  ready = c.requires.ready;
  takes = takes_none c.args.seat.now.view.client c.args.tally.now;
  makes = refl;
  interns = uses_none c.args.seat.now.view.client c.args.seat.now.view.client refl;
  owns = owns_none c.args.seat.now;
}

pub loop-taken-preserved : goal.loop-taken-preserved
loop-taken-preserved g c = record {
  ready = c.take_one.ensures.ready;
  takes = takes_next c.loop-taken.taken c.in_ok-take_one.field-0 c.args.seat.now.view.client
      c.loop-taken.seat.view.client c.take_one.new.seat.view.client c.args.tally.now
      c.loop-taken.tally c.take_one.new.tally c.loop-taken.invariant.takes
      c.in_ok-take_one.ensures.takes c.if-not-branch.false;
  makes = c.take_one.ensures.makes ∙ c.loop-taken.invariant.makes;
  interns = uses_then 0 0 c.args.seat.now.view.client c.loop-taken.seat.view.client
      c.take_one.new.seat.view.client c.loop-taken.invariant.interns c.take_one.ensures.interns;
  owns = owns_on c.args.seat.now.view.core.owned c.args.seat.now c.loop-taken.seat
      c.take_one.new.seat c.loop-taken.invariant.owns (λ x. omega arith) c.take_one.ensures.owns;
}

pub returns-then-not-branch-clause-takes : goal.returns-then-not-branch-clause-takes
returns-then-not-branch-clause-takes g c =
    takes_last c.loop-taken.taken c.in_ok-take_one.field-0 c.args.seat.now.view.client
    c.loop-taken.seat.view.client c.take_one.new.seat.view.client c.args.tally.now
    c.loop-taken.tally c.take_one.new.tally c.loop-taken.invariant.takes
    c.in_ok-take_one.ensures.takes c.if-not-branch.true

pub returns-then-not-branch-clause-none : goal.returns-then-not-branch-clause-none
returns-then-not-branch-clause-none g c = λ less. record {
  last = c.loop-taken.seat;
  words = c.loop-taken.invariant.takes.words;
  counts = c.loop-taken.invariant.takes.counts;
  finds = c.take_one.ensures.none (c.in_ok-take_one.was ∙ ap Ok c.if-not-branch.true);
}

pub returns-then-not-branch-clause-owns : goal.returns-then-not-branch-clause-owns
returns-then-not-branch-clause-owns g c =
    owns_on c.args.seat.now.view.core.owned c.args.seat.now c.loop-taken.seat
    c.take_one.new.seat c.loop-taken.invariant.owns (λ x. omega arith) c.take_one.ensures.owns
