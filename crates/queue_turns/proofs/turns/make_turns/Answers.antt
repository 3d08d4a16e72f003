use Rattle.std.proofs.Common.{ap, arith, length}
use Rattle.linked_queue.specs.queue_law.declared.view.View.{View}
use Rattle.queue_turns.proofs.turns.make_turns.Goals as goal

pub drop_strong-requires-clause-owned : goal.drop_strong-requires-clause-owned
drop_strong-requires-clause-owned g c =
    let owned = rw c.in-Ok-Some.field-0-is at c.in-Ok-Some.ensures.owned in
    omega (arith, owned, c.queue_all-all.ensures.owned c.in-Ok-Some.item.slot)

pub returns-then-all : goal.returns-then-all
returns-then-all g c =
    let attached = ap (λ (v : View). length v.pushed) c.attach.ensures.attached in
    let found = rw c.in-Ok-Some.field-0-is at c.in-Ok-Some.ensures.popped in
    let popped = ap (λ (v : View). length v.pushed) found.deeds in
    let turns = c.queue_all-all.ensures.turns c.if-all.true in
    let dropped = ap (λ (v : View). length v.pushed) c.drop_strong.ensures.client in
    omega arith
