use Rattle.std.proofs.Common.{ap, arith, length, ◌∙◌}
use Rattle.linked_queue.specs.queue_law.declared.view.View.{View}
use Rattle.turn_loops.specs.plain_state.Lists.{times}
use Rattle.queue_turns.proofs.Carried.{as_before_named, copied_owned, dropped_owned, length_push}
use Rattle.queue_turns.proofs.turns.push_copy.Goals as goal

pub returns-in-Err-clause-owned : goal.returns-in-Err-clause-owned
returns-in-Err-clause-owned g c x =
    let item = c.args.item.now.slot in
    let copied = c.in-Ok.ensures.copied in
    let owned = copied_owned c.args.domain.now item c.args.seat.now c.copy_strong.new.seat copied.1 in
    as_before_named x item c.in-Err.refused.back.slot
    (ap (λ h. h.slot) c.in-Err.ensures.back ∙ copied.0)
    c.args.seat.now.view.core.owned
    c.push.new.seat.view.core.owned c.drop_strong.new.seat.view.core.owned
    (λ y. c.in-Err.ensures.refused.leaves.owns y ∙ ap (times y) owned)
    (ap (times x) (dropped_owned c.args.domain.now c.in-Err.refused.back.slot c.push.new.seat
    c.drop_strong.new.seat c.drop_strong.ensures.dropped))

pub returns-clause-owned : goal.returns-clause-owned
returns-clause-owned g c x =
    let item = c.args.item.now.slot in
    let copied = c.in-Ok.ensures.copied in
    let owned = copied_owned c.args.domain.now item c.args.seat.now c.copy_strong.new.seat copied.1 in
    as_before_named x item c.in-Ok.copy.slot copied.0 c.args.seat.now.view.core.owned
    c.copy_strong.new.seat.view.core.owned c.push.new.seat.view.core.owned
    (λ y. ap (times y) owned) (c.in_default-push.ensures.pushed.leaves.owns x)

pub returns-clause-pushed : goal.returns-clause-pushed
returns-clause-pushed g c all =
    let mine = ap (λ (v : View). length v.pushed) c.in-Ok.ensures.client in
    let more = ap (λ (v : View). length v.pushed) c.in_default-push.ensures.pushed.deeds in
    let push = length_push c.copy_strong.new.seat.view.client.pushed in
    omega (arith, mine, more, push)
