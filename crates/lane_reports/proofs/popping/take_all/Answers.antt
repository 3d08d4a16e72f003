use Rattle.std.proofs.Common.{refl, ◌∙◌, arith}
use Rattle.std.proofs.lemmas.Result.{err_from_is_err_and}
use Rattle.lane_domain.proofs.Below.lane_files_PiecesCounted.{takes_more, takes_none}
use Rattle.lane_domain.proofs.Below.lane_files_SeatsKept.{owns_none, owns_on, uses_none, uses_then}
use Rattle.lane_reports.proofs.TakenAll.{why_after}
use Rattle.lane_reports.proofs.popping.take_all.Goals as goal

pub loop-taken-init : goal.loop-taken-init
loop-taken-init g c = record {
  ready = c.requires.ready;
  takes = takes_none c.args.seat.now.view.client c.args.tally.now;
  makes = refl;
  interns = uses_none c.args.seat.now.view.client c.args.seat.now.view.client refl;
  owns = owns_none c.args.seat.now;
}

pub loop-taken-preserved : goal.loop-taken-preserved
loop-taken-preserved g c = record {
  ready = c.take_next.ensures.ready;
  takes = takes_more c.loop-taken._taken 1 c.args.seat.now.view.client
      c.loop-taken.seat.view.client c.take_next.new.seat.view.client c.args.tally.now
      c.loop-taken.tally c.take_next.new.tally c.loop-taken.invariant.takes
      c.in_ok-take_next.ensures.takes;
  makes = c.take_next.ensures.makes ∙ c.loop-taken.invariant.makes;
  interns = uses_then 0 0 c.args.seat.now.view.client c.loop-taken.seat.view.client
      c.take_next.new.seat.view.client c.loop-taken.invariant.interns c.take_next.ensures.interns;
  owns = owns_on c.args.seat.now.view.core.owned c.args.seat.now c.loop-taken.seat
      c.take_next.new.seat c.loop-taken.invariant.owns (λ x. omega arith) c.take_next.ensures.owns;
}

pub returns-in_err-take_next-clause-why : goal.returns-in_err-take_next-clause-why
returns-in_err-take_next-clause-why g c =
    let p = err_from_is_err_and c.from_residual.result c.from_residual.ensures.1 in
    rw (p.1, p.2)
    (why_after c.loop-taken._taken c.args.most c.in_err-take_next.field-0.0 c.args.seat.now
    c.loop-taken.seat c.take_next.new.seat c.args.tally.now c.loop-taken.tally
    c.take_next.new.tally c.loop-taken.invariant.takes c.loop-taken-test.true
    c.in_err-take_next.ensures.why)
