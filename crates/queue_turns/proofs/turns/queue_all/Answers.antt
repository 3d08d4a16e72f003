use Rattle.std.proofs.Common.{ap, arith, length, ◌∙◌}
use Rattle.linked_queue.specs.queue_law.declared.view.View.{View}
use Rattle.turn_loops.specs.plain_state.Lists.{times}
use Rattle.queue_turns.proofs.turns.queue_all.Goals as goal

pub loop-turn-preserved : goal.loop-turn-preserved
loop-turn-preserved g c =
    let pushed = c.push_copy.ensures.pushed c.if-not-push_copy.false in
    let popped = ap length c.pop_first.ensures.pushed in
    let collected = ap (λ (v : View). length v.pushed) c.collect_now.ensures.client in
    let reaped = ap (λ (v : View). length v.pushed) c.reap_ended.ensures.client in
    let turns = c.loop-turn.invariant.turns in
    record {
      ready = c.reap_ended.ensures.ready;
      owned = λ x.
          ap (times x) (c.reap_ended.ensures.owned ∙ c.collect_now.ensures.owned)
          ∙ (c.pop_first.ensures.owned x ∙ (c.push_copy.ensures.owned x ∙ c.loop-turn.invariant.owned x));
      turns = omega arith;
    }
