use Rattle.std.proofs.Common.{inr, refl, arith}
use Rattle.part_calls.proofs.SeenCalls.{then_err}
use Rattle.weak_watch.specs.Subjects.{news_fits, seen, watch_in}
use Rattle.weak_watch.proofs.Keeping.{keeps_drop, keeps_wider}
use Rattle.weak_watch.proofs.Delivered.{then_both}
use Rattle.weak_watch.proofs.Pushed.{keeps_gives}
use Rattle.weak_watch.proofs.Sent.{observer_still, sent_keeps, sent_may, sent_view, still_known}
use Rattle.weak_watch.proofs.sending.send.Goals as goal

pub address-requires-clause-observer : goal.address-requires-clause-observer
address-requires-clause-observer g c =
    observer_still c.args.id c.in-Ok.delivery.slot c.args.observer.slot c.args.seat.now
    c.make_delivery.new.seat c.in-Ok.ensures.keeps c.requires.observer

pub push_delivery-requires-clause-may : goal.push_delivery-requires-clause-may
push_delivery-requires-clause-may g c =
    sent_may c.args.id c.args.event c.in-Ok.delivery.slot c.args.observer.slot
    c.make_delivery.new.seat c.address.new.seat c.in-Ok.ensures.has c.address.ensures.owned
    c.address.ensures.keeps c.address.ensures.noted

pub returns-in-Ok-clause-sends : goal.returns-in-Ok-clause-sends
returns-in-Ok-clause-sends g c =
    then_both c.push_delivery.result c.push_delivery.ensures.pushes c.push_delivery.ensures.pushed
    (λ done pushes pushed. record {
      delivery = c.in-Ok.delivery.slot;
      made = c.make_delivery.new.seat;
      addressed = c.address.new.seat;
      makes = c.in-Ok.ensures.made;
      addresses = c.address.ensures.addresses;
      pushes = pushes;
      view = sent_view c.args.id c.args.event c.in-Ok.delivery.slot c.args.observer.slot
          c.make_delivery.new.seat c.address.new.seat c.in-Ok.ensures.has c.address.ensures.owned
          c.address.ensures.keeps c.address.ensures.noted c.args.seat.now c.push_delivery.new.seat
          c.in-Ok.ensures.noted
          (still_known c.args.id c.in-Ok.delivery.slot c.args.observer.slot c.args.seat.now
          c.make_delivery.new.seat c.in-Ok.ensures.keeps c.requires.observer)
          c.push_delivery.ensures.beside pushed;
    })

pub returns-in-Ok-clause-why : goal.returns-in-Ok-clause-why
returns-in-Ok-clause-why g c =
    then_err _ _ c.push_delivery.result (λ why unpushed. inr (record {
      delivery = c.in-Ok.delivery.slot;
      made = c.make_delivery.new.seat;
      addressed = c.address.new.seat;
      makes = c.in-Ok.ensures.made;
      addresses = c.address.ensures.addresses;
      unpushed = unpushed;
    })) c.push_delivery.ensures.why

pub returns-in-Ok-clause-keeps : goal.returns-in-Ok-clause-keeps
returns-in-Ok-clause-keeps g c = (
  _,
  sent_keeps c.push_delivery.ensures.keeps.0 c.in-Ok.delivery.slot c.args.observer.slot
      c.args.seat.now c.make_delivery.new.seat c.address.new.seat c.push_delivery.new.seat
      c.in-Ok.ensures.keeps c.address.ensures.keeps c.push_delivery.ensures.keeps.1
      c.requires.observer.owned c.address.ensures.owned,
)

pub returns-in-Err-clause-keeps : goal.returns-in-Err-clause-keeps
returns-in-Err-clause-keeps g c =
    let old = c.args.seat.now in
    let mid = c.make_delivery.new.seat in
    let new = c.drop_strong.new.seat in
    let o = c.args.observer.slot in (
      0,
      keeps_wider 0 0 2 0 _ _ old new
          (keeps_gives 0 0 o old mid new c.requires.observer.owned c.in-Err.ensures.keeps
          (keeps_drop news_fits (watch_in c.args.domain.now) o (seen mid) (seen new) mid new refl
          refl c.drop_strong.ensures.dropped c.drop_strong.ensures.objects))
          (omega arith) (omega arith),
    )
