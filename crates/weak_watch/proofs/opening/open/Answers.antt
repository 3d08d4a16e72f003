use Rattle.std.proofs.Common.{◌≡◌, ap, sym, subst, refl, ◌∙◌, arith}
use Rattle.std.specs.Prelude.{slice_index}
use Rattle.control_word.specs.plain_state.declared.slot.SlotId.{SlotId}
use Rattle.control_word.specs.domain_rule.Views.{object_in}
use Rattle.control_word.specs.plain_protocol.Owns.{Object}
use Rattle.watch_protocol.specs.watch_law.Payloads.{IsDelivery, IsObserverOf}
use Rattle.control_word.specs.core_events.Views.{Holds}
use Rattle.weak_watch.specs.Subjects.{news_fits, seen, watch_in}
use Rattle.weak_watch.proofs.Keeping.{held_on, keeps_drop}
use Rattle.weak_watch.proofs.Pushed.{keeps_both, keeps_gives}
use Rattle.weak_watch.proofs.Taken.{fewer, gives_both, word_keeps}
use Rattle.weak_watch.proofs.opening.open.Goals as goal

pub returns-then-read-ne2-clause-keeps : goal.returns-then-read-ne2-clause-keeps
returns-then-read-ne2-clause-keeps c =
    let d = c.args.domain.now in
    let a = c.args.seat.now in
    let r = c.read.new.seat in
    let b = c.drop_strong.new.seat in
    let n = c.drop_strong-then-read-ne2.new.seat in
    gives_both c.args.item.slot c.args.content.slot a b n
    (keeps_gives 0 0 c.args.item.slot a r b c.requires.item
    (word_keeps news_fits d c.slot.result 0 c.read.result a r c.read.ensures.seen
    c.read.ensures.objects)
    (keeps_drop news_fits (watch_in d) c.args.item.slot (seen r) (seen b) r b refl refl
    c.drop_strong.ensures.dropped c.drop_strong.ensures.objects))
    c.requires.content
    (keeps_drop news_fits (watch_in d) c.args.content.slot (seen b) (seen n) b n refl refl
    c.drop_strong-then-read-ne2.ensures.dropped c.drop_strong-then-read-ne2.ensures.objects)

pub read-id-requires-clause-holds : goal.read-id-requires-clause-holds
read-id-requires-clause-holds c =
    let d = c.args.domain.now in
    let a = c.args.seat.now in
    let r = c.read.new.seat in
    let e = c.read-event.new.seat in
    let x = c.args.content.slot in
    let most = fewer x c.args.item.slot a.view.core.owned c.requires.item in
    let some' = c.requires.content in
    subst (λ (s : SlotId). Holds e.view.core s) (sym c.slot-3.ensures)
    (held_on 0 0 _ _ a e
    (keeps_both 0 0 0 0 a r e
    (word_keeps news_fits d c.slot.result 0 c.read.result a r c.read.ensures.seen
    c.read.ensures.objects)
    (word_keeps news_fits d c.slot-2.result 1 c.read-event.result r e c.read-event.ensures.seen
    c.read-event.ensures.objects))
    x (omega arith) (omega arith) (omega (arith, most, some')))

pub returns-clause-keeps : goal.returns-clause-keeps
returns-clause-keeps c =
    let d = c.args.domain.now in
    let a = c.args.seat.now in
    let r = c.read.new.seat in
    let e = c.read-event.new.seat in
    let i = c.read-id.new.seat in
    let n = c.drop_strong-2.new.seat in
    keeps_gives 0 0 c.args.item.slot a i n c.requires.item
    (keeps_both 0 0 0 0 a e i
    (keeps_both 0 0 0 0 a r e
    (word_keeps news_fits d c.slot.result 0 c.read.result a r c.read.ensures.seen
    c.read.ensures.objects)
    (word_keeps news_fits d c.slot-2.result 1 c.read-event.result r e c.read-event.ensures.seen
    c.read-event.ensures.objects))
    (word_keeps news_fits d c.slot-3.result 1 c.read-id.result e i c.read-id.ensures.seen
    c.read-id.ensures.objects))
    (keeps_drop news_fits (watch_in d) c.args.item.slot (seen i) (seen n) i n refl refl
    c.drop_strong-2.ensures.dropped c.drop_strong-2.ensures.objects)

pub returns-clause-has : goal.returns-clause-has
returns-clause-has c =
    let d = c.args.domain.now in
    let a = c.args.seat.now in
    let r = c.read.new.seat in
    let e = c.read-event.new.seat in
    let n = c.drop_strong-2.new.seat in
    let x = c.args.content.slot in
    let item = c.args.item.slot in
    let whole = returns-clause-keeps c in
    let most = fewer x item a.view.core.owned c.requires.item in
    let some' = c.requires.content in
    let own = whole.owns x in
    let words = keeps_both 0 0 0 0 a r e
    (word_keeps news_fits d c.slot.result 0 c.read.result a r c.read.ensures.seen
    c.read.ensures.objects)
    (word_keeps news_fits d c.slot-2.result 1 c.read-event.result r e c.read-event.ensures.seen
    c.read-event.ensures.objects) in
    let held : Holds a.view.core x = omega (arith, most, some') in
    let known = whole.knows x held (omega (arith, own, some')) in
    let same = words.knows x held
    (held_on 0 0 _ _ a e words x (omega arith) (omega arith) held) in
    let two : c.read.result ≡ 2 = omega (arith, c.if-read-ne2.false) in
    let is : IsDelivery (object_in a.view item).payload =
    subst (λ (s : SlotId). IsDelivery (object_in a.view s).payload) c.slot.ensures
    (sym c.read.ensures.read ∙ two) in
    let told' = subst (λ (s : SlotId). c.read-id.result
    ≡ slice_index (object_in e.view s).payload 1) c.slot-3.ensures c.read-id.ensures.read in
    record {
      owned = omega (arith, own, some');
      observer = subst (λ (o : Object). IsObserverOf c.read-id.result o.payload) (sym known) (
        c.requires.observer is,
        ap (λ (o : Object). slice_index o.payload 1) (sym same) ∙ sym told',
      );
    }
