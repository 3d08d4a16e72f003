use Rattle.std.proofs.Common.{ap, arith, subst}
use Rattle.std.specs.Prelude.{Some}
use Rattle.control_word.specs.plain_state.declared.act.EventPlace.TheVariants.{Field}
use Rattle.control_word.specs.plain_state.declared.slot.SlotId.{SlotId}
use Rattle.linked_queue.specs.UnlessRipe.{TellsNothing, next_unless}
use Rattle.weak_part_calls.specs.retiring_stores.Exchanging.{Stores}
use Rattle.watch_protocol.specs.watch_law.Writes.{address_next}
use Rattle.weak_watch.proofs.Keeping.{keeps_strong_given}
use Rattle.watch_protocol.specs.watch_law.News.{NewsView}
use Rattle.weak_watch.specs.Subjects.{news_fits, seen, watch_in}
use Rattle.weak_watch.specs.Sending.{Addresses}
use Rattle.weak_watch.proofs.Addressed.{address_noted, left_owned, part_delivery, part_observer}
use Rattle.weak_watch.proofs.addressing.address.Goals as goal

pub returns-clause-noted : goal.returns-clause-noted
returns-clause-noted c =
    let d = watch_in c.args.domain.now in
    let s = c.args.delivery.now.slot in
    let o = c.args.observer.slot in
    let old = c.args.seat.now in
    let new = c.store.new.seat in
    let stores : Addresses news_fits d s o (seen old) (seen new) =
    subst (λ (x : SlotId). Addresses news_fits d x o (seen old) (seen new)) c.slot-slot.ensures
    (subst (λ (y : SlotId). Stores news_fits d (next_unless (address_next c.slot-slot.result y))
    TellsNothing (Field c.slot-slot.result 0) (Some o) (seen old) (seen new)) c.slot.ensures
    c.store.ensures.stored) in
    let mine = address_noted news_fits d c.args.id c.args.event s o (seen old) (seen new) stores
    (part_delivery c.args.event s old c.requires.delivery)
    (part_observer c.args.id o old c.requires.observer) in
    λ i. (ap (λ (v : NewsView). v.0) c.store.ensures.beside i, mine i)

pub returns-clause-owned : goal.returns-clause-owned
returns-clause-owned c =
    let s = c.args.delivery.now.slot in
    let o = c.args.observer.slot in
    let old = c.args.seat.now in
    let left = left_owned c.args.id c.args.event s o old old.view.client.1 c.requires.delivery
    c.requires.observer in
    let owns = (keeps_strong_given o old c.store.new.seat c.store.ensures.stored.swaps.same
    c.store.ensures.objects).owns s in
    omega (arith, left, owns)
