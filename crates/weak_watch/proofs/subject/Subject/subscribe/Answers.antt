use Rattle.std.proofs.Common.{inr, refl, subst, arith}
use Rattle.control_word.specs.acquire_retire.Seats.{SeatState}
use Rattle.control_word.specs.Calls.{DropsStrong}
use Rattle.control_word.proofs.Below.core_law_Kit.{times_push}
use Rattle.watch_protocol.specs.watch_law.News.{NewsView}
use Rattle.weak_watch.specs.Subjects.{seen, watch_in}
use Rattle.weak_watch.proofs.Keeping.{is_err, keeps_drop, keeps_on, keeps_same, keeps_wider, not_err, strong_through}
use Rattle.weak_watch.proofs.subject.Subject.subscribe.Goals as goal

pub returns-in-Ok-clause-subscribed : goal.returns-in-Ok-clause-subscribed
returns-in-Ok-clause-subscribed c = record {
  can = c.in_ok-observer.ensures.can;
  made = seen c.make_observer.new.seat;
  makes = c.in_ok-observer.ensures.made;
  one_more = λ spent. not_err _ _ c.in-Ok.is (c.set_cell.ensures.spent.1 spent);
  sets = c.in-Ok.ensures.sets;
}

pub returns-in-Ok-clause-keeps : goal.returns-in-Ok-clause-keeps
returns-in-Ok-clause-keeps c =
    let s = c.in_ok-observer.observer.slot in
    keeps_on 1 1 0 1 _ _ c.args.seat.now c.make_observer.new.seat c.set_cell.new.seat
    c.in_ok-observer.ensures.keeps c.in-Ok.ensures.keeps
    (λ x. let push = times_push x s c.args.seat.now.view.core.owned in omega (arith, push))
    (λ x. omega arith)

pub returns-in-Err-clause-why : goal.returns-in-Err-clause-why
returns-in-Err-clause-why c = inr (
  refl,
  record {
    can = c.in_ok-observer.ensures.can;
    slot = c.in_ok-observer.observer.slot;
    made = seen c.make_observer.new.seat;
    makes = c.in_ok-observer.ensures.made;
    spent = c.set_cell.ensures.spent.0 (is_err _ _ c.in-Err.is);
    drops = subst (λ (z : SeatState NewsView). DropsStrong _ (watch_in c.args.domain.now)
        c.in_ok-observer.observer.slot (seen z) (seen c.drop_strong.new.seat))
        c.in-Err.ensures.refused c.drop_strong.ensures.dropped;
  },
)

pub returns-in-Err-clause-keeps : goal.returns-in-Err-clause-keeps
returns-in-Err-clause-keeps c =
    let s = c.in_ok-observer.observer.slot in
    let old = c.args.seat.now in
    let mid = c.set_cell.new.seat in
    let new = c.drop_strong.new.seat in
    keeps_wider 1 1 1 2 _ _ old new
    (strong_through 1 1 s old mid new
    (keeps_on 1 1 0 0 _ _ old c.make_observer.new.seat mid c.in_ok-observer.ensures.keeps
    (keeps_same c.make_observer.new.seat mid c.in-Err.ensures.refused)
    (λ x. let push = times_push x s old.view.core.owned in omega (arith, push))
    (λ x. omega arith))
    (keeps_drop _ _ s (seen mid) (seen new) mid new refl refl c.drop_strong.ensures.dropped
    c.drop_strong.ensures.objects))
    (omega arith) (omega arith)
