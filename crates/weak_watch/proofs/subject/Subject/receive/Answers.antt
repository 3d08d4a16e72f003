use Rattle.std.proofs.Common.{◌+◌, suc, subst}
use Rattle.weak_watch.specs.Keeping.{Keeps}
use Rattle.weak_watch.specs.Receiving.{Received, Receives, with_received}
use Rattle.weak_watch.specs.declared.delivery.Received.TheVariants as received
use Rattle.weak_watch.proofs.Growing.{grows_then}
use Rattle.weak_watch.proofs.Pushed.{keeps_both}
use Rattle.weak_watch.proofs.Received.{passes_lost, passes_more, tried_keeps}
use Rattle.weak_watch.proofs.subject.Subject.receive.Goals as goal

pub returns-in-Ok-Nothing-clause-received : goal.returns-in-Ok-Nothing-clause-received
returns-in-Ok-Nothing-clause-received g c = record {
  passed = c.loop-try.invariant.1.0;
  last = c.loop-try.seat;
  passes = c.loop-try.invariant.1.1;
  receives = subst (λ (r : Received). Receives c.args.domain.now r c.loop-try.seat
      c.try_receive.new.seat) c.in-Ok-Nothing.field-0-is c.in-Ok-Nothing.ensures.receives;
}

pub returns-in-Ok-Nothing-clause-beside : goal.returns-in-Ok-Nothing-clause-beside
returns-in-Ok-Nothing-clause-beside g c = grows_then c.args.seat.now.view.client.1 c.loop-try.seat.view.client.1
    c.try_receive.new.seat.view.client.1 c.loop-try.invariant.2 c.in-Ok-Nothing.ensures.beside

pub returns-in-Ok-Nothing-clause-keeps : goal.returns-in-Ok-Nothing-clause-keeps
returns-in-Ok-Nothing-clause-keeps g c = (
  c.loop-try.invariant.3.0 + c.in-Ok-Nothing.ensures.keeps.0,
  tried_keeps c.loop-try.invariant.3.0 c.in-Ok-Nothing.ensures.keeps.0 received.Nothing
      c.args.seat.now c.loop-try.seat c.try_receive.new.seat c.loop-try.invariant.3.1
      (subst (λ (r : Received). Keeps 0 c.in-Ok-Nothing.ensures.keeps.0
      (with_received r c.loop-try.seat.view.core.owned) c.loop-try.seat.view.core.weaks
      c.loop-try.seat c.try_receive.new.seat) c.in-Ok-Nothing.field-0-is
      c.in-Ok-Nothing.ensures.keeps.1),
)

pub returns-in-Ok-Delivery-clause-received : goal.returns-in-Ok-Delivery-clause-received
returns-in-Ok-Delivery-clause-received g c = record {
  passed = c.loop-try.invariant.1.0;
  last = c.loop-try.seat;
  passes = c.loop-try.invariant.1.1;
  receives = subst (λ (r : Received). Receives c.args.domain.now r c.loop-try.seat
      c.try_receive.new.seat) c.in-Ok-Delivery.field-0-is c.in-Ok-Delivery.ensures.receives;
}

pub returns-in-Ok-Delivery-clause-beside : goal.returns-in-Ok-Delivery-clause-beside
returns-in-Ok-Delivery-clause-beside g c = grows_then c.args.seat.now.view.client.1 c.loop-try.seat.view.client.1
    c.try_receive.new.seat.view.client.1 c.loop-try.invariant.2 c.in-Ok-Delivery.ensures.beside

pub returns-in-Ok-Delivery-clause-keeps : goal.returns-in-Ok-Delivery-clause-keeps
returns-in-Ok-Delivery-clause-keeps g c = (
  c.loop-try.invariant.3.0 + c.in-Ok-Delivery.ensures.keeps.0,
  tried_keeps c.loop-try.invariant.3.0 c.in-Ok-Delivery.ensures.keeps.0 (received.Delivery c.in-Ok-Delivery.delivery)
      c.args.seat.now c.loop-try.seat c.try_receive.new.seat c.loop-try.invariant.3.1
      (subst (λ (r : Received). Keeps 0 c.in-Ok-Delivery.ensures.keeps.0
      (with_received r c.loop-try.seat.view.core.owned) c.loop-try.seat.view.core.weaks
      c.loop-try.seat c.try_receive.new.seat) c.in-Ok-Delivery.field-0-is
      c.in-Ok-Delivery.ensures.keeps.1),
)

pub loop-try-preserved-in-Ok-Passed : goal.loop-try-preserved-in-Ok-Passed
loop-try-preserved-in-Ok-Passed g c = (
  record { send = c.in-Ok-Passed.ensures.ready; over = c.requires.ready.over },
  (
    suc c.loop-try.invariant.1.0,
    passes_more c.args.domain.now c.loop-try.invariant.1.0 c.args.seat.now c.loop-try.seat
        c.try_receive.new.seat c.loop-try.invariant.1.1
        (subst (λ (r : Received). Receives c.args.domain.now r c.loop-try.seat
        c.try_receive.new.seat) c.in-Ok-Passed.field-0-is c.in-Ok-Passed.ensures.receives),
  ),
  grows_then c.args.seat.now.view.client.1 c.loop-try.seat.view.client.1
      c.try_receive.new.seat.view.client.1 c.loop-try.invariant.2 c.in-Ok-Passed.ensures.beside,
  (
    c.loop-try.invariant.3.0 + c.in-Ok-Passed.ensures.keeps.0,
    tried_keeps c.loop-try.invariant.3.0 c.in-Ok-Passed.ensures.keeps.0 received.Passed
        c.args.seat.now c.loop-try.seat c.try_receive.new.seat c.loop-try.invariant.3.1
        (subst (λ (r : Received). Keeps 0 c.in-Ok-Passed.ensures.keeps.0
        (with_received r c.loop-try.seat.view.core.owned) c.loop-try.seat.view.core.weaks
        c.loop-try.seat c.try_receive.new.seat) c.in-Ok-Passed.field-0-is
        c.in-Ok-Passed.ensures.keeps.1),
  ),
)

pub returns-in-Err-Spent-clause-spent : goal.returns-in-Err-Spent-clause-spent
returns-in-Err-Spent-clause-spent g c = (
  c.in-Err-Spent.ensures.spent c.in-Err-Spent.field-0-is,
  (
    c.loop-try.invariant.1.0,
    passes_lost c.args.domain.now c.loop-try.invariant.1.0 c.args.seat.now c.loop-try.seat
        c.try_receive.new.seat c.loop-try.invariant.1.1 c.in-Err-Spent.ensures.none,
  ),
)

pub returns-in-Err-Spent-clause-keeps : goal.returns-in-Err-Spent-clause-keeps
returns-in-Err-Spent-clause-keeps g c = (
  c.loop-try.invariant.3.0 + c.in-Err-Spent.ensures.keeps.0,
  keeps_both 0 c.loop-try.invariant.3.0 0 c.in-Err-Spent.ensures.keeps.0 c.args.seat.now
      c.loop-try.seat c.try_receive.new.seat c.loop-try.invariant.3.1
      c.in-Err-Spent.ensures.keeps.1,
)

pub loop-try-preserved : goal.loop-try-preserved
loop-try-preserved g c = (
  record { send = c.in-Err-Again.ensures.ready; over = c.requires.ready.over },
  (
    c.loop-try.invariant.1.0,
    passes_lost c.args.domain.now c.loop-try.invariant.1.0 c.args.seat.now c.loop-try.seat
        c.try_receive.new.seat c.loop-try.invariant.1.1 c.in-Err-Again.ensures.none,
  ),
  grows_then c.args.seat.now.view.client.1 c.loop-try.seat.view.client.1
      c.try_receive.new.seat.view.client.1 c.loop-try.invariant.2 c.in-Err-Again.ensures.beside,
  (
    c.loop-try.invariant.3.0 + c.in-Err-Again.ensures.keeps.0,
    keeps_both 0 c.loop-try.invariant.3.0 0 c.in-Err-Again.ensures.keeps.0 c.args.seat.now
        c.loop-try.seat c.try_receive.new.seat c.loop-try.invariant.3.1
        c.in-Err-Again.ensures.keeps.1,
  ),
)
