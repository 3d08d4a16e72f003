-- What one try to receive came to, from what was taken and what was read of it.
use Rattle.std.proofs.Common.{◌≡◌, ℕ, zero, suc, ◌+◌, ◌<◌, List, [], ◌∷◌, ◌++◌, inl, refl, ap, sym, ◌∙◌, subst, arith}
use Rattle.std.specs.Prelude.{Some}
use Rattle.control_word.specs.acquire_retire.Domains.{DomainState}
use Rattle.control_word.specs.acquire_retire.Seats.{SeatState}
use Rattle.control_word.specs.core_events.Views.{without}
use Rattle.control_word.specs.plain_state.declared.slot.SlotId.{SlotId}
use Rattle.control_word.specs.plain_state.Lists.{times}
use Rattle.control_word.proofs.Below.core_law_Kit.{one_same, times_push, times_without}
use Rattle.linked_queue.specs.Pops.{with_both}
use Rattle.linked_queue.specs.Queues.{deeds_in}
use Rattle.watch_protocol.specs.declared.news.NewsLaw.{NewsLaw}
use Rattle.watch_protocol.specs.watch_law.News.{NewsView}
use Rattle.weak_watch.specs.Keeping.{Keeps}
use Rattle.weak_watch.specs.Receiving.{NotesRead, Opens, PassesOne, PassesOver, PopsNone, Receives, Takes, left_by, with_received}
use Rattle.weak_watch.specs.Receiving.{Received}
use Rattle.weak_watch.specs.declared.delivery.Received.TheVariants as received
use Rattle.weak_watch.specs.Sending.{address_in}
use Rattle.weak_watch.proofs.Keeping.{held_on, keeps_then}

pub received_by : (d : DomainState NewsLaw) (got : Received) (item s : SlotId)
    (old mid new : SeatState NewsView) → Takes d item (Some s) old mid → NotesRead item s old mid
    → Opens item s got mid → new.view.client ≡ mid.view.client → Receives d got old new
received_by d received.Nothing item s old mid new takes notes opens client = absurd opens
received_by d received.Passed item s old mid new takes notes opens client = record {
  item = item;
  content = Some s;
  popped = mid;
  takes = takes;
  why = inl opens;
  then_none = ap (λ (v : NewsView). deeds_in v.0) client;
}
received_by d (received.Delivery x) item s old mid new takes notes opens client = record {
  item = item;
  popped = mid;
  takes = subst (λ (z : SlotId). Takes d item (Some z) old mid) (sym opens.0) takes;
  is = opens.1;
  event = opens.2;
  noted =
      let id = opens.3 in
      let event = opens.2 in
      let observer = sym opens.0 in
      ap (λ (v : NewsView). v.1.read) client ∙ (notes opens.1).0
      ∙ (λ i. old.view.client.1.read ++ address_in (id i) (event i) item (observer i) mid ∷ []);
  then_none = ap (λ (v : NewsView). deeds_in v.0) client;
}

-- WHAT IS OWNED: the item and its content, of which one is given up, or both
module _ (item s : SlotId) (xs ys : List SlotId)
    (owns : (x : SlotId) → times x ys ≡ times x (with_both (Some (item, Some s)) xs)) where
  pub item_owned : 0 < times item ys
  item_owned =
      let e = owns item in
      let f = times_push item s (xs ++ item ∷ []) in
      let g = times_push item item xs in
      let one = one_same item item refl in omega (arith, e, f, g, one)

  pub content_left : 0 < times s (without item ys)
  content_left =
      let e = owns s in
      let f = times_push s s (xs ++ item ∷ []) in
      let g = times_push s item xs in
      let one = one_same s s refl in
      let less = times_without s item ys item_owned in omega (arith, e, f, g, one, less)

  pub left_owns : (got : Received) (mid : SeatState NewsView) → Opens item s got mid
      → (x : SlotId) → times x (left_by got item s ys) ≡ times x (with_received got xs)
  left_owns received.Nothing mid opens x = absurd opens
  left_owns received.Passed mid opens x =
      let e = owns x in
      let f = times_push x s (xs ++ item ∷ []) in
      let g = times_push x item xs in
      let less = times_without x item ys item_owned in
      let none = times_without x s (without item ys) content_left in
      omega (arith, e, f, g, less, none)
  left_owns (received.Delivery y) mid opens x =
      let e = owns x in
      let f = times_push x s (xs ++ item ∷ []) in
      let g = times_push x item xs in
      let h = times_push x y.observer.slot xs in
      let less = times_without x item ys item_owned in
      let same = ap (λ (z : SlotId). times x (xs ++ z ∷ [])) opens.0 in
      let i = times_push x s xs in
      omega (arith, e, f, g, less, same, i)

pub opened_keeps : (n : ℕ) (got : Received) (item s : SlotId) (a b c : SeatState NewsView)
    → Keeps 0 n (with_both (Some (item, Some s)) a.view.core.owned) a.view.core.weaks a b
    → Opens item s got b → Keeps 0 0 (left_by got item s b.view.core.owned) b.view.core.weaks b c
    → Keeps 0 (n + 0) (with_received got a.view.core.owned) a.view.core.weaks a c
opened_keeps n got item s a b c takes opens gives =
    keeps_then 0 n 0 0 _ _ _ _ _ _ a b c takes gives
    (left_owns item s a.view.core.owned b.view.core.owned takes.owns got b opens)
    takes.weakly
    (λ x was is.
    let f = times_push x s (a.view.core.owned ++ item ∷ []) in
    let g = times_push x item a.view.core.owned in
    held_on 0 n _ _ a b takes x (omega (arith, f, g)) (omega arith) was)

-- TRIES one after the other
pub passes_lost : (d : DomainState NewsLaw) (n : ℕ) (a b c : SeatState NewsView)
    → PassesOver d n a b → PopsNone b c → PassesOver d n a c
passes_lost d zero a b c passes none = none ∙ passes
passes_lost d (suc n) a b c passes none =
    (passes.0, passes.1, passes.2, passes.3, none ∙ passes.4)

pub passes_more : (d : DomainState NewsLaw) (n : ℕ) (a b c : SeatState NewsView)
    → PassesOver d n a b → PassesOne d b c → PassesOver d (suc n) a c
passes_more d n a b c passes one = (c, b, passes, one, refl)

got_same : (got : Received) (x : SlotId) (xs ys : List SlotId) → times x xs ≡ times x ys
    → times x (with_received got xs) ≡ times x (with_received got ys)
got_same received.Nothing x xs ys same = same
got_same received.Passed x xs ys same = same
got_same (received.Delivery y) x xs ys same =
    let a = times_push x y.observer.slot xs in
    let b = times_push x y.observer.slot ys in omega (arith, same, a, b)

pub tried_keeps : (m n : ℕ) (got : Received) (a b c : SeatState NewsView)
    → Keeps 0 m a.view.core.owned a.view.core.weaks a b
    → Keeps 0 n (with_received got b.view.core.owned) b.view.core.weaks b c
    → Keeps 0 (m + n) (with_received got a.view.core.owned) a.view.core.weaks a c
tried_keeps m n got a b c first second =
    keeps_then 0 m 0 n _ _ _ _ _ _ a b c first second
    (λ x. got_same got x b.view.core.owned a.view.core.owned (first.owns x))
    first.weakly
    (λ x was is. held_on 0 m _ _ a b first x (omega arith) (omega arith) was)
