use Rattle.std.proofs.Common.{ap, subst, sym}
use Rattle.turn_loops.specs.plain_state.Lists.{times}
use Rattle.linked_queue.specs.Queues.{IsAttached}
use Rattle.queue_turns.proofs.Carried.{as_before, dropped_owned}
use Rattle.queue_turns.proofs.turns.pop_first.Goals as goal

pub returns-in-Some-clause-owned : goal.returns-in-Some-clause-owned
returns-in-Some-clause-owned g c x =
    let popped = rw c.in-Some.is at c.in-Ok.ensures.popped in
    as_before x c.in-Some.first.slot c.args.seat.now.view.core.owned
    c.pop.new.seat.view.core.owned c.drop_strong.new.seat.view.core.owned popped.leaves.owns
    (ap (times x) (dropped_owned c.args.domain.now c.in-Some.first.slot c.pop.new.seat
    c.drop_strong.new.seat c.drop_strong.ensures.dropped))

pub returns-in_default-found-clause-owned : goal.returns-in_default-found-clause-owned
returns-in_default-found-clause-owned g c x =
    let popped = rw c.in_default-found.is at c.in-Ok.ensures.popped in popped.leaves.owns x

pub returns-in-Some-clause-ready : goal.returns-in-Some-clause-ready
returns-in-Some-clause-ready g c = record {
  rest = c.drop_strong.ensures.rest;
  room = c.drop_strong.ensures.room c.in-Ok.ensures.room;
  attached = subst IsAttached (sym c.drop_strong.ensures.client) c.in-Ok.ensures.attached;
}
