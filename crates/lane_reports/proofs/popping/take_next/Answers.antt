use Rattle.std.proofs.Common.{refl, ◌∙◌, arith}
use Rattle.lane_domain.proofs.Below.lane_files_PiecesCounted.{takes_last, takes_next, takes_none}
use Rattle.lane_domain.proofs.Below.lane_files_SeatsKept.{owns_none, owns_on, uses_none, uses_then}
use Rattle.lane_reports.proofs.popping.take_next.Goals as goal

pub loop-try-init : goal.loop-try-init
loop-try-init g c = record {
  ready = c.requires.ready;
  takes = takes_none c.args.seat.now.view.client c.args.tally.now;
  makes = refl;
  interns = uses_none c.args.seat.now.view.client c.args.seat.now.view.client refl;
  owns = owns_none c.args.seat.now;
}

pub loop-try-preserved : goal.loop-try-preserved
loop-try-preserved g c = record {
  ready = c.take_one.ensures.ready;
  takes = takes_last 0 c.in_ok-take_one.field-0 c.args.seat.now.view.client
      c.loop-try.seat.view.client c.take_one.new.seat.view.client c.args.tally.now
      c.loop-try.tally c.take_one.new.tally c.loop-try.invariant.takes
      c.in_ok-take_one.ensures.takes c.if-branch.false;
  makes = c.take_one.ensures.makes ∙ c.loop-try.invariant.makes;
  interns = uses_then 0 0 c.args.seat.now.view.client c.loop-try.seat.view.client
      c.take_one.new.seat.view.client c.loop-try.invariant.interns c.take_one.ensures.interns;
  owns = owns_on c.args.seat.now.view.core.owned c.args.seat.now c.loop-try.seat
      c.take_one.new.seat c.loop-try.invariant.owns (λ x. omega arith) c.take_one.ensures.owns;
}

pub returns-then-branch-clause-takes : goal.returns-then-branch-clause-takes
returns-then-branch-clause-takes g c =
    takes_next 0 c.in_ok-take_one.field-0 c.args.seat.now.view.client c.loop-try.seat.view.client
    c.take_one.new.seat.view.client c.args.tally.now c.loop-try.tally c.take_one.new.tally
    c.loop-try.invariant.takes c.in_ok-take_one.ensures.takes c.if-branch.true
