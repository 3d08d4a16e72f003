use Rattle.std.proofs.Common.{inr, subst, arith}
use Rattle.weak_watch.specs.Finding.{Reaches}
use Rattle.weak_watch.specs.Subjects.{news_fits, seen, watch_in}
use Rattle.weak_watch.specs.declared.reached.Reached.{Reached}
use Rattle.weak_watch.proofs.Keeping.{keeps_wider}
use Rattle.weak_watch.proofs.Pushed.{gains_gives}
use Rattle.weak_watch.proofs.Published.{reached_keeps_as}
use Rattle.weak_watch.proofs.publishing_to.publish_to.Goals as goal

pub returns-in-Ok-Absent-clause-fate : goal.returns-in-Ok-Absent-clause-fate
returns-in-Ok-Absent-clause-fate g c = (
  subst (λ (r : Reached). Reaches news_fits (watch_in c.args.domain.now) c.args.id r
      (seen c.args.seat.now) (seen c.reach.new.seat)) c.in-Ok-Absent.field-0-is
      c.in-Ok-Absent.ensures.reached,
  c.reach.ensures.client,
)

pub returns-in-Ok-Ended-clause-fate : goal.returns-in-Ok-Ended-clause-fate
returns-in-Ok-Ended-clause-fate g c = (
  subst (λ (r : Reached). Reaches news_fits (watch_in c.args.domain.now) c.args.id r
      (seen c.args.seat.now) (seen c.reach.new.seat)) c.in-Ok-Ended.field-0-is
      c.in-Ok-Ended.ensures.reached,
  c.reach.ensures.client,
)

pub returns-in-Ok-Ended-clause-keeps : goal.returns-in-Ok-Ended-clause-keeps
returns-in-Ok-Ended-clause-keeps g c =
    let old = c.args.seat.now in
    let new = c.reach.new.seat in (
      2,
      keeps_wider 0 2 2 2 _ _ old new
          (reached_keeps_as _ _ c.in-Ok-Ended.field-0-is old new c.in-Ok-Ended.ensures.keeps)
          (omega arith) (omega arith),
    )

pub returns-in-Ok-clause-fate : goal.returns-in-Ok-clause-fate
returns-in-Ok-clause-fate g c = record {
  observer = c.in-Ok-Alive.observer.slot;
  found = c.reach.new.seat;
  alive = subst (λ (r : Reached). Reaches news_fits (watch_in c.args.domain.now) c.args.id r
      (seen c.args.seat.now) (seen c.reach.new.seat)) c.in-Ok-Alive.field-0-is
      c.in-Ok-Alive.ensures.reached;
  client = c.reach.ensures.client;
  sends = c.in-Ok.ensures.sends;
}

pub returns-in-Ok-clause-keeps : goal.returns-in-Ok-clause-keeps
returns-in-Ok-clause-keeps g c = (
  _,
  gains_gives 0 2 2 c.send.ensures.keeps.0 c.in-Ok-Alive.observer.slot c.args.seat.now
      c.reach.new.seat c.send.new.seat
      (reached_keeps_as _ _ c.in-Ok-Alive.field-0-is c.args.seat.now c.reach.new.seat
      c.in-Ok-Alive.ensures.keeps)
      c.send.ensures.keeps.1,
)

pub returns-in-Err-send-clause-why : goal.returns-in-Err-send-clause-why
returns-in-Err-send-clause-why g c = inr (record {
  observer = c.in-Ok-Alive.observer.slot;
  found = c.reach.new.seat;
  alive = subst (λ (r : Reached). Reaches news_fits (watch_in c.args.domain.now) c.args.id r
      (seen c.args.seat.now) (seen c.reach.new.seat)) c.in-Ok-Alive.field-0-is
      c.in-Ok-Alive.ensures.reached;
  client = c.reach.ensures.client;
  unsent = c.in-Err-send.ensures.why;
})

pub returns-in-Err-send-clause-keeps : goal.returns-in-Err-send-clause-keeps
returns-in-Err-send-clause-keeps g c = (
  _,
  gains_gives 0 2 2 c.send.ensures.keeps.0 c.in-Ok-Alive.observer.slot c.args.seat.now
      c.reach.new.seat c.send.new.seat
      (reached_keeps_as _ _ c.in-Ok-Alive.field-0-is c.args.seat.now c.reach.new.seat
      c.in-Ok-Alive.ensures.keeps)
      c.send.ensures.keeps.1,
)
