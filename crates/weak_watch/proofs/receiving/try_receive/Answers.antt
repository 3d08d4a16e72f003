use Rattle.std.proofs.Common.{◌≡◌, ◌+◌, ◌∙◌, ap, inr, refl, subst}
use Rattle.std.specs.Prelude.{IfSome, Option, Some, None}
use Rattle.control_word.specs.counted_handles.Handles.{Handle}
use Rattle.linked_queue.specs.Pops.{named_both, with_both}
use Rattle.linked_queue.specs.Queues.{deeds_in}
use Rattle.watch_protocol.specs.watch_law.News.{NewsView}
use Rattle.weak_watch.specs.Keeping.{Keeps}
use Rattle.weak_watch.specs.Receiving.{NotesRead, TakesOne}
use Rattle.weak_watch.specs.Subjects.{news_fits, seen, watch_in}
use Rattle.weak_watch.proofs.Keeping.{keeps_drop, strong_through}
use Rattle.weak_watch.proofs.Received.{content_left, opened_keeps, received_by}
use Rattle.weak_watch.proofs.receiving.try_receive.Goals as goal

pub open-requires-clause-content : goal.open-requires-clause-content
open-requires-clause-content g c =
    let old = c.args.seat.now in
    let mid = c.take.new.seat in
    let item = c.in-Ok-Some.item in
    let both : c.in-Ok-Some.field-0 ≡ Some (item, Some c.in-Some.content) =
    c.in-Ok-Some.field-0-is ∙ ap (λ (o : Option Handle). Some (item, o)) c.in-Some.is in
    content_left item.slot c.in-Some.content.slot old.view.core.owned mid.view.core.owned
    (subst (λ (f : Option (Handle × Option Handle)). Keeps 0 c.in-Ok-Some.ensures.keeps.0
    (with_both (named_both f) old.view.core.owned) old.view.core.weaks old mid) both
    c.in-Ok-Some.ensures.keeps.1).owns

pub returns-in-Some-clause-receives : goal.returns-in-Some-clause-receives
returns-in-Some-clause-receives g c =
    let d = c.args.domain.now in
    let old = c.args.seat.now in
    let mid = c.take.new.seat in
    let item = c.in-Ok-Some.item in
    let both : c.in-Ok-Some.field-0 ≡ Some (item, Some c.in-Some.content) =
    c.in-Ok-Some.field-0-is ∙ ap (λ (o : Option Handle). Some (item, o)) c.in-Some.is in
    received_by d c.open.result item.slot c.in-Some.content.slot old mid c.open.new.seat
    (subst (λ (f : Option (Handle × Option Handle)). TakesOne d (named_both f) old mid) both
    c.in-Ok-Some.ensures.takes)
    (subst (λ (f : Option (Handle × Option Handle)). IfSome f (λ pair. IfSome pair.1
    (λ content. NotesRead pair.0.slot content.slot old mid))) both c.in-Ok-Some.ensures.notes)
    c.open.ensures.opens c.open.ensures.client

pub returns-in-Some-clause-keeps : goal.returns-in-Some-clause-keeps
returns-in-Some-clause-keeps g c =
    let old = c.args.seat.now in
    let mid = c.take.new.seat in
    let item = c.in-Ok-Some.item in
    let n = c.in-Ok-Some.ensures.keeps.0 in
    let both : c.in-Ok-Some.field-0 ≡ Some (item, Some c.in-Some.content) =
    c.in-Ok-Some.field-0-is ∙ ap (λ (o : Option Handle). Some (item, o)) c.in-Some.is in (
      n + 0,
      opened_keeps n c.open.result item.slot c.in-Some.content.slot old mid c.open.new.seat
          (subst (λ (f : Option (Handle × Option Handle)). Keeps 0 n
          (with_both (named_both f) old.view.core.owned) old.view.core.weaks old mid) both
          c.in-Ok-Some.ensures.keeps.1)
          c.open.ensures.opens c.open.ensures.keeps,
    )

pub returns-in-None-clause-receives : goal.returns-in-None-clause-receives
returns-in-None-clause-receives g c =
    let d = c.args.domain.now in
    let old = c.args.seat.now in
    let mid = c.take.new.seat in
    let item = c.in-Ok-Some.item in
    let one : c.in-Ok-Some.field-0 ≡ Some (item, None) =
    c.in-Ok-Some.field-0-is ∙ ap (λ (o : Option Handle). Some (item, o)) c.in-None.is in
    record {
      item = item.slot;
      content = None;
      popped = mid;
      takes = subst (λ (f : Option (Handle × Option Handle)). TakesOne d (named_both f) old mid)
          one c.in-Ok-Some.ensures.takes;
      why = inr refl;
      then_none = ap (λ (v : NewsView). deeds_in v.0) c.drop_strong.ensures.client;
    }

pub returns-in-None-clause-keeps : goal.returns-in-None-clause-keeps
returns-in-None-clause-keeps g c =
    let old = c.args.seat.now in
    let mid = c.take.new.seat in
    let new = c.drop_strong.new.seat in
    let item = c.in-Ok-Some.item in
    let n = c.in-Ok-Some.ensures.keeps.0 in
    let one : c.in-Ok-Some.field-0 ≡ Some (item, None) =
    c.in-Ok-Some.field-0-is ∙ ap (λ (o : Option Handle). Some (item, o)) c.in-None.is in (
      n + 0,
      strong_through 0 n item.slot old mid new
          (subst (λ (f : Option (Handle × Option Handle)). Keeps 0 n
          (with_both (named_both f) old.view.core.owned) old.view.core.weaks old mid) one
          c.in-Ok-Some.ensures.keeps.1)
          (keeps_drop news_fits (watch_in c.args.domain.now) item.slot (seen mid) (seen new) mid new
          refl refl c.drop_strong.ensures.dropped c.drop_strong.ensures.objects),
    )
