-- What is known and kept on the way of a delivery to its observer.
use Rattle.std.proofs.Common.{◌≡◌, inr, ℕ, ◌+◌, ◌<◌, [], ◌∷◌, ◌++◌, refl, ap, sym, ◌∙◌, subst, arith}
use Rattle.std.specs.Prelude.{Contains}
use Rattle.std.proofs.lemmas.List.Elements.{Contains-push}
use Rattle.control_word.specs.plain_state.declared.slot.SlotId.{SlotId}
use Rattle.control_word.specs.plain_state.Lists.{times}
use Rattle.control_word.specs.plain_protocol.Owns.{Object}
use Rattle.control_word.specs.core_events.Views.{without}
use Rattle.control_word.proofs.Below.core_law_Kit.{times_push, times_without}
use Rattle.control_word.specs.domain_rule.Views.{object_in}
use Rattle.control_word.specs.acquire_retire.Seats.{SeatState}
use Rattle.hand_queues.specs.Pushes.{deeds_of}
use Rattle.linked_queue.specs.Pops.{item_in}
use Rattle.linked_queue.specs.Pushes.{pushed_too}
use Rattle.linked_queue.specs.queue_law.declared.view.View.{View as QueueView}
use Rattle.watch_protocol.specs.watch_law.News.{IsOf, NewsView}
use Rattle.watch_protocol.specs.watch_law.Payloads.{IsObserverOf, told}
use Rattle.watch_protocol.specs.watch_law.Pushes.{MayPush}
use Rattle.weak_watch.specs.Keeping.{Keeps}
use Rattle.weak_watch.proofs.Keeping.{held_before, held_on, keeps_then}
use Rattle.weak_watch.specs.Sending.{HasDelivery, HasObserver, IsSent, address_in, addressed_too, made_in, pushing}

-- the observer is owned and known still, once the delivery was made
module _ (c : ℕ) (s o : SlotId) (old made : SeatState NewsView)
    (keeps : Keeps 1 1 (old.view.core.owned ++ s ∷ []) old.view.core.weaks old made)
    (observer : HasObserver c o old) where
  still_owned : 0 < times o made.view.core.owned
  still_owned =
      let e = keeps.owns o in
      let push = times_push o s old.view.core.owned in
      let own = observer.owned in omega (arith, e, push, own)

  pub still_known : object_in made.view o ≡ object_in old.view o
  still_known =
      let before = observer.owned in
      let after = still_owned in
      keeps.knows o (omega (arith, before)) (omega (arith, after))

  pub observer_still : HasObserver c o made
  observer_still = record {
    owned = still_owned;
    observer = subst (λ (x : Object). IsObserverOf c x.payload) (sym still_known) observer.observer;
  }

-- the delivery, once it has its observer
module _ (c event : ℕ) (s o : SlotId) (made addressed : SeatState NewsView)
    (delivery : HasDelivery event s made made.view.client.1)
    (owned : 0 < times s addressed.view.core.owned)
    (keeps : Keeps 0 0 (without o made.view.core.owned) made.view.core.weaks made addressed)
    (noted : addressed.view.client ≡ (
      made.view.client.0,
      addressed_too
          (address_in c event s o made) made.view.client.1,
    )) where
  known : object_in addressed.view s ≡ object_in made.view s
  known = let own = delivery.owned in keeps.knows s (omega (arith, own)) (omega (arith, owned))

  pub sent_named : IsOf (address_in c event s o made) (item_in (pushing addressed) s)
  sent_named = record {
    slot = refl;
    life = sym (ap (λ (x : Object). x.life) known);
    event = sym (ap (λ (x : Object). told x.payload) known
        ∙ ap told delivery.payload);
  }

  pub sent_may : MayPush addressed.view.client (item_in (pushing addressed) s)
  sent_may = inr (
    address_in c event s o made,
    subst (λ (v : NewsView). Contains v.1.addressed (address_in c event s o made)) (sym noted)
        (Contains-push made.view.client.1.addressed (address_in c event s o made)),
    sent_named,
  )

  -- WHAT THE VIEW TELLS once it was pushed
  pub sent_view : (old new : SeatState NewsView)
      → made.view.client ≡ (old.view.client.0, made_in s made old.view.client.1)
      → (object_in made.view o ≡ object_in old.view o)
      → new.view.client.1 ≡ addressed.view.client.1
      → deeds_of new.view.client.0 ≡ pushed_too (item_in (pushing addressed) s)
      (deeds_of addressed.view.client.0)
      → IsSent c event o old new
  sent_view old new made_so same beside pushed = record {
    address = address_in c event s o made;
    item = item_in (pushing addressed) s;
    id = refl;
    event_is = refl;
    observer = refl;
    life = ap (λ (x : Object). x.life) same;
    named = sent_named;
    addressed = beside ∙ ap (λ (v : NewsView). v.1) noted
        ∙ ap (λ (v : NewsView). addressed_too (address_in c event s o made) v.1) made_so;
    pushed = pushed
        ∙ ap (λ (v : QueueView). pushed_too (item_in (pushing addressed) s) (deeds_of v))
        (ap (λ (v : NewsView). v.0) noted ∙ ap (λ (v : NewsView). v.0) made_so);
  }

-- WHAT IS KEPT where it was made, given the observer, and pushed or given up
pub sent_keeps : (n : ℕ) (s o : SlotId) (old made addressed new : SeatState NewsView)
    → Keeps 1 1 (old.view.core.owned ++ s ∷ []) old.view.core.weaks old made
    → Keeps 0 0 (without o made.view.core.owned) made.view.core.weaks made addressed
    → Keeps 1 n (without s addressed.view.core.owned) addressed.view.core.weaks addressed new
    → 0 < times o old.view.core.owned → 0 < times s addressed.view.core.owned
    → Keeps 2 (1 + (0 + n)) (without o old.view.core.owned) old.view.core.weaks old new
sent_keeps n s o old made addressed new first second third own left =
    keeps_then 1 1 1 (0 + n) _ _ _ _ _ _ old made new first later
    (λ x.
    let p = first.owns x in
    let q = second.owns x in
    let push = times_push x s old.view.core.owned in
    let fewer = times_without x o old.view.core.owned own in
    let mid = times_without x o made.view.core.owned still in
    let last = times_without x s addressed.view.core.owned left in
    omega (arith, p, q, push, fewer, mid, last))
    first.weakly
    (λ x was is.
    let push = times_push x s old.view.core.owned in
    held_on 1 1 _ _ old made first x (omega (arith, push)) (omega arith) was)
  where
    still : 0 < times o made.view.core.owned
    still = let e = first.owns o in let push = times_push o s old.view.core.owned in
        omega (arith, e, push, own)

    later : Keeps (0 + 1) (0 + n) (without s addressed.view.core.owned) made.view.core.weaks made new
    later = keeps_then 0 0 1 n _ _ _ _ _ _ made addressed new second third (λ x. refl)
        second.weakly
        (λ x was is.
        let last = times_without x s addressed.view.core.owned left in
        held_before 1 n _ _ addressed new third x (omega (arith, last)) (omega arith) is)
