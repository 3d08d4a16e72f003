use Rattle.std.proofs.Common.{◌∙◌, arith}
use Rattle.lane_files.proofs.Scanned.{collect_scans}
use Rattle.lane_files.proofs.SeatsKept.{owns_on}
use Rattle.lane_files.proofs.Tidied.{collect_same, makes_collect, owns_collect, ready_collect}
use Rattle.lane_files.proofs.tidying.tidy.Goals as goal

pub loop-turn-init : goal.loop-turn-init
loop-turn-init g c = record {
  ready = ready_collect c.args.seat.now c.collect.new.seat c.requires.ready c.collect.ensures;
  client = collect_same c.args.seat.now c.collect.new.seat c.requires.ready c.collect.ensures;
  owns = owns_collect _ c.args.domain.now c.args.seat.now c.collect.new.seat c.collect.ensures;
  makes = makes_collect _ c.args.domain.now c.args.seat.now c.collect.new.seat c.collect.ensures;
  scans = collect_scans _ c.args.domain.now c.args.seat.now c.collect.new.seat c.collect.ensures;
}

pub loop-turn-preserved : goal.loop-turn-preserved
loop-turn-preserved g c = record {
  ready = c.destroy_next.ensures.ready;
  client = c.destroy_next.ensures.client ∙ c.loop-turn.invariant.client;
  owns = owns_on c.args.seat.now.view.core.owned c.args.seat.now c.loop-turn.seat
      c.destroy_next.new.seat c.loop-turn.invariant.owns (λ x. omega arith)
      c.destroy_next.ensures.owns;
  makes = c.destroy_next.ensures.makes ∙ c.loop-turn.invariant.makes;
  scans = let had = c.loop-turn.invariant.scans in
      let more = c.destroy_next.ensures.scans in omega arith;
}

pub returns-then-not-destroy_next-clause-owns : goal.returns-then-not-destroy_next-clause-owns
returns-then-not-destroy_next-clause-owns g c =
    owns_on c.args.seat.now.view.core.owned c.args.seat.now c.loop-turn.seat
    c.destroy_next.new.seat c.loop-turn.invariant.owns (λ x. omega arith)
    c.destroy_next.ensures.owns

pub returns-then-not-destroy_next-clause-scans : goal.returns-then-not-destroy_next-clause-scans
returns-then-not-destroy_next-clause-scans g c =
    let had = c.loop-turn.invariant.scans in
    let more = c.destroy_next.ensures.scans in omega arith
