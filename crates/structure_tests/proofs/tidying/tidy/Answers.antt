use Rattle.std.proofs.Common.{ap, ◌∙◌}
use Rattle.structure_tests.specs.Ready.{View}
use Rattle.structure_tests.proofs.Kept.{ready_as, ready_collected, stands_collected}
use Rattle.structure_tests.proofs.tidying.tidy.Goals as goal

pub loop-turn-init : goal.loop-turn-init
loop-turn-init c = (
  ready_collected _ c.args.domain.now c.args.seat.now c.collect.new.seat c.requires.ready
      c.collect.ensures,
  stands_collected _ c.args.domain.now c.args.seat.now c.collect.new.seat c.collect.ensures,
)

pub loop-turn-preserved : goal.loop-turn-preserved
loop-turn-preserved c = (
  ready_as c.args.domain.now c.loop-turn.seat c.reap.new.seat c.loop-turn.invariant.0
      c.reap.ensures.notes (ap (λ (v : View). v.0) c.reap.ensures.client)
      c.reap.ensures.room c.reap.ensures.rest,
  ap (λ (v : View). v.0.stand) c.reap.ensures.client ∙ c.loop-turn.invariant.1,
)
