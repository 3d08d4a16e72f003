use Rattle.std.proofs.Common.{◌∷◌, ◌++◌, [], refl, subst, sym, arith}
use Rattle.std.specs.Prelude.{IfSome, Option, Some, None}
use Rattle.control_word.specs.plain_state.declared.slot.SlotId.{SlotId}
use Rattle.control_word.specs.counted_handles.Handles.{Handle}
use Rattle.control_word.specs.acquire_retire.Calls.{IsSameView, same_view}
use Rattle.control_word.specs.Calls.{DropsWeak, GainsStrong, with_add, with_strong}
use Rattle.control_word.specs.domain_rule.Views.{object_in}
use Rattle.weak_part_calls.specs.atomic_weak.Places.{named}
use Rattle.watch_protocol.specs.watch_law.Payloads.{IsObserverOf}
use Rattle.weak_watch.specs.Finding.{FindsAtLast}
use Rattle.weak_watch.specs.Keeping.{Keeps, count_of, with_more}
use Rattle.weak_watch.specs.Subjects.{news_fits, seen, watch_in}
use Rattle.weak_watch.proofs.Keeping.{err_as, keeps_core, keeps_same, keeps_weak_drop}
use Rattle.weak_watch.proofs.Tried.{reached_keeps, reached_known, reached_owned}
use Rattle.weak_watch.proofs.reaching.reach.Goals as goal

pub returns-in-Ok-clause-reached : goal.returns-in-Ok-clause-reached
returns-in-Ok-clause-reached g c =
    let d = watch_in c.args.domain.now in
    let s = c.in-Ok.observer.slot in
    let same = sym c.in-Ok.ensures.upgraded.0 in
    record {
      found = seen c.find.new.seat;
      raised = seen c.upgrade.new.seat;
      finds = subst (λ (x : SlotId). FindsAtLast news_fits d c.args.id (Some x)
          (seen c.args.seat.now) (seen c.find.new.seat)) same
          (subst (λ (o : Option Handle). FindsAtLast news_fits d c.args.id (named o)
          (seen c.args.seat.now) (seen c.find.new.seat)) c.in-Some.is
          c.in_ok-weak.ensures.found);
      gains = subst (λ (x : SlotId). GainsStrong news_fits d same_view IsSameView x
          (seen c.find.new.seat) (seen c.upgrade.new.seat)) same c.in-Ok.ensures.upgraded.1;
      drops = subst (λ (x : SlotId). DropsWeak news_fits d x (seen c.upgrade.new.seat)
          (seen c.drop_weak.new.seat)) same c.drop_weak.ensures.dropped;
    }

pub returns-in-Err-Ended-clause-reached : goal.returns-in-Err-Ended-clause-reached
returns-in-Err-Ended-clause-reached g c = (
  c.in-Some.weak.slot,
  record {
    found = seen c.find.new.seat;
    tried = seen c.upgrade.new.seat;
    finds = subst (λ (o : Option Handle). FindsAtLast news_fits (watch_in c.args.domain.now)
        c.args.id (named o) (seen c.args.seat.now) (seen c.find.new.seat)) c.in-Some.is
        c.in_ok-weak.ensures.found;
    ended = c.upgrade.ensures.ended
        (err_as c.upgrade.result _ _ c.in-Err-Ended.is c.in-Err-Ended.field-0-is);
    drops = c.drop_weak-in-Err-Ended.ensures.dropped;
  },
)

pub returns-in-Ok-clause-keeps : goal.returns-in-Ok-clause-keeps
returns-in-Ok-clause-keeps g c =
    let a = c.args.seat.now in
    let b = c.find.new.seat in
    let u = c.upgrade.new.seat in
    let n = c.drop_weak.new.seat in
    let s = c.in-Some.weak.slot in
    reached_keeps 1 (Some c.in-Ok.observer.slot) s a b u n
    (subst (λ (o : Option Handle). Keeps 0 (count_of (named o)) a.view.core.owned
    (with_more (named o) a.view.core.weaks) a b) c.in-Some.is c.in_ok-weak.ensures.keeps)
    (subst (λ (x : SlotId). Keeps 0 1 (b.view.core.owned ++ x ∷ []) b.view.core.weaks b u)
    (sym c.in-Ok.ensures.upgraded.0)
    (keeps_core b u (with_strong s b.view.core) b.view.core _ 0 1 c.in-Ok.ensures.upgraded.1.core
    refl (omega arith) refl c.upgrade.ensures.objects (λ x was is. was)))
    (keeps_weak_drop news_fits (watch_in c.args.domain.now) s (seen u) (seen n) u n refl refl
    c.drop_weak.ensures.dropped c.drop_weak.ensures.objects)

pub returns-in-Err-Ended-clause-keeps : goal.returns-in-Err-Ended-clause-keeps
returns-in-Err-Ended-clause-keeps g c =
    let a = c.args.seat.now in
    let b = c.find.new.seat in
    let u = c.upgrade.new.seat in
    let n = c.drop_weak-in-Err-Ended.new.seat in
    let s = c.in-Some.weak.slot in
    reached_keeps 1 None s a b u n
    (subst (λ (o : Option Handle). Keeps 0 (count_of (named o)) a.view.core.owned
    (with_more (named o) a.view.core.weaks) a b) c.in-Some.is c.in_ok-weak.ensures.keeps)
    (keeps_core b u (with_add b.view.core) b.view.core _ 0 1
    (c.upgrade.ensures.ended
    (err_as c.upgrade.result _ _ c.in-Err-Ended.is c.in-Err-Ended.field-0-is)).becomes.core
    refl (omega arith) refl c.upgrade.ensures.objects (λ x was is. was))
    (keeps_weak_drop news_fits (watch_in c.args.domain.now) s (seen u) (seen n) u n refl refl
    c.drop_weak-in-Err-Ended.ensures.dropped c.drop_weak-in-Err-Ended.ensures.objects)

pub returns-in-Err-Spent-clause-keeps : goal.returns-in-Err-Spent-clause-keeps
returns-in-Err-Spent-clause-keeps g c =
    let a = c.args.seat.now in
    let b = c.find.new.seat in
    let u = c.upgrade.new.seat in
    let n = c.drop_weak-in-Err-Spent.new.seat in
    let s = c.in-Some.weak.slot in
    reached_keeps 0 None s a b u n
    (subst (λ (o : Option Handle). Keeps 0 (count_of (named o)) a.view.core.owned
    (with_more (named o) a.view.core.weaks) a b) c.in-Some.is c.in_ok-weak.ensures.keeps)
    (keeps_same b u (c.upgrade.ensures.refused
    (err_as c.upgrade.result _ _ c.in-Err-Spent.is c.in-Err-Spent.field-0-is)))
    (keeps_weak_drop news_fits (watch_in c.args.domain.now) s (seen u) (seen n) u n refl refl
    c.drop_weak-in-Err-Spent.ensures.dropped c.drop_weak-in-Err-Spent.ensures.objects)

pub returns-in-Ok-clause-has : goal.returns-in-Ok-clause-has
returns-in-Ok-clause-has g c =
    let a = c.args.seat.now in
    let b = c.find.new.seat in
    let u = c.upgrade.new.seat in
    let n = c.drop_weak.new.seat in
    let s = c.in-Some.weak.slot in
    let finds = subst (λ (o : Option Handle). Keeps 0 (count_of (named o)) a.view.core.owned
    (with_more (named o) a.view.core.weaks) a b) c.in-Some.is c.in_ok-weak.ensures.keeps in
    let tries = subst (λ (x : SlotId). Keeps 0 1 (b.view.core.owned ++ x ∷ []) b.view.core.weaks b u)
    (sym c.in-Ok.ensures.upgraded.0)
    (keeps_core b u (with_strong s b.view.core) b.view.core _ 0 1 c.in-Ok.ensures.upgraded.1.core
    refl (omega arith) refl c.upgrade.ensures.objects (λ x was is. was)) in
    let drops = keeps_weak_drop news_fits (watch_in c.args.domain.now) s (seen u) (seen n) u n refl
    refl c.drop_weak.ensures.dropped c.drop_weak.ensures.objects in (
      reached_owned 1 (Some c.in-Ok.observer.slot) s a b u n finds tries drops
          c.in-Ok.observer.slot c.in-Ok.ensures.owned,
      reached_known 1 (Some c.in-Ok.observer.slot) s a b u n finds tries drops c.args.id
          c.in-Ok.observer.slot c.in-Ok.ensures.upgraded.0 c.in-Ok.ensures.owned
          (subst (λ (o : Option Handle). IfSome o (λ weak. IsObserverOf c.args.id
          (object_in b.view weak.slot).payload)) c.in-Some.is c.in_ok-weak.ensures.observer),
    )

pub returns-in-Ok-clause-ready : goal.returns-in-Ok-clause-ready
returns-in-Ok-clause-ready g c = record {
  rest = c.drop_weak.ensures.rest;
  room = c.drop_weak.ensures.room (c.upgrade.ensures.room c.find.ensures.ready.room);
  over = c.requires.ready.over;
}

pub returns-in-Err-Ended-clause-ready : goal.returns-in-Err-Ended-clause-ready
returns-in-Err-Ended-clause-ready g c = record {
  rest = c.drop_weak-in-Err-Ended.ensures.rest;
  room = c.drop_weak-in-Err-Ended.ensures.room (c.upgrade.ensures.room c.find.ensures.ready.room);
  over = c.requires.ready.over;
}
