-- The queue and the observers as parts of the whole: which steps of each keep the joint law, and what may be pushed.
use Rattle.std.proofs.Common.{◌≡◌, ◌≢◌, ◌⊎◌, inl, inr, ⊎_elim, ℕ, List, [], ◌∷◌, ◌++◌, get_or, set, sym, ap, subst, ◌∙◌, arith}
use Rattle.std.specs.Prelude.{Contains}
use Rattle.std.proofs.lemmas.List.{length-map, map-set, set-get_or}
use Rattle.std.proofs.lemmas.List.Elements.{Contains-push_cases}
use Rattle.std.proofs.Math.ListN.{get_or-map}
use Rattle.plain_protocol.specs.plain_state.declared.act.PlainAct.{PlainAct}
use Rattle.plain_protocol.specs.plain_state.declared.act.PlainAct.TheVariants as act
use Rattle.plain_protocol.specs.Acts.{Owned}
use Rattle.plain_protocol.specs.Owns.{OwnPart, own_part}
use Rattle.protocol_pairs.specs.Parts.{HasPart, KeepsRest}
use Rattle.protocol_pairs.specs.Sides.{left_rest, right_rest}
use Rattle.protocol_pairs.specs.Spared.{IsSpared}
use Rattle.queue_law.specs.declared.view.Item.{Item}
use Rattle.queue_law.specs.declared.view.Taken.{Taken}
use Rattle.queue_law.specs.declared.view.View.{View as QueueView}
use Rattle.queue_law.specs.Views.{view_of}
use Rattle.queue_law.specs.Views as queue
use Rattle.queue_law.specs.Chain.{Ends}
use Rattle.queue_law.specs.Lists.{taken_items}
use Rattle.queue_law.specs.Law.{WholeLaw}
use Rattle.queue_law.specs.Owned as queue_owned
use Rattle.queue_law.proofs.Left.{does_left}
use Rattle.queue_law.proofs.Whole.{whole_foreign}
use Rattle.watch_law.specs.Payloads.{IsDelivery}
use Rattle.watch_law.specs.Views.{Address, View, view_at, no_view, IsAddressed}
use Rattle.watch_law.specs.Law.{Area, WatchLaw}
use Rattle.watch_law.specs.Owned as watch_owned
use Rattle.watch_law.specs.News.{NewsView, gone, queues, watches, IsOf, AllAddressed, Gone, NewsLaw}
use Rattle.watch_law.specs.Pushes.{MayPush, PushesAddressed, KeepsAll}
use Rattle.watch_law.proofs.Left.{gone_same, gone_set}
use Rattle.watch_law.proofs.Quiet.{watch_foreign}
use Rattle.watch_law.proofs.News.{meets_both, pushes, sent_keep, sent_push, taken_append}

pub queue_has : (u : Ends) (z : Area) → HasPart (NewsLaw u z) (WholeLaw u) (λ v. v.0)
queue_has u z p views law = law.both.0

pub watch_has : (u : Ends) (z : Area) → HasPart (NewsLaw u z) (WatchLaw z) (λ v. v.1)
watch_has u z p views law = law.both.1

no_leave : (owned : Owned) (own : OwnPart) (step : PlainAct) → IsSpared owned own step
    → (j : ℕ) → step ≢ act.Leave j
no_leave owned own step spared j e = subst (IsSpared owned own) e spared

module _ (views : List NewsView) (n : ℕ) where
  abbrev old : NewsView
  old = get_or views n gone

  queue_here : (w : QueueView) → queues (set views n (w, old.1)) ≡ set (queues views) n w
  queue_here w = map-set (λ (v : NewsView). v.0) views n (w, old.1)

  watch_same : (w : QueueView) → watches (set views n (w, old.1)) ≡ watches views
  watch_same w =
      map-set (λ (v : NewsView). v.1) views n (w, old.1)
      ∙ (ap (set (watches views) n) (sym (get_or-map (λ (v : NewsView). v.1) views n gone))
      ∙ set-get_or (watches views) n no_view)

  watch_here : (w : View) → watches (set views n (old.0, w)) ≡ set (watches views) n w
  watch_here w = map-set (λ (v : NewsView). v.1) views n (old.0, w)

  queue_same : (w : View) → queues (set views n (old.0, w)) ≡ queues views
  queue_same w =
      map-set (λ (v : NewsView). v.0) views n (old.0, w)
      ∙ (ap (set (queues views) n) (sym (get_or-map (λ (v : NewsView). v.0) views n gone))
      ∙ set-get_or (queues views) n queue.first_view)

  queue_at : queue.view_at (queues views) n ≡ old.0
  queue_at = get_or-map (λ (v : NewsView). v.0) views n gone

  watch_at : view_at (watches views) n ≡ old.1
  watch_at = get_or-map (λ (v : NewsView). v.1) views n gone

may_address : (views : List NewsView) (n : ℕ) (x : Item) → MayPush (get_or views n gone) x
    → IsDelivery x.payload → (a : Address) × IsAddressed (watches views) a × IsOf a x
may_address views n x may is = ⊎_elim (λ not. absurd (not is))
    (λ a. (a.0, (n, subst (λ (v : View). Contains v.addressed a.0) (sym (watch_at views n)) a.1), a.2))
    may

pub queue_rest : (u : Ends) (z : Area)
    → KeepsRest (NewsLaw u z) (WholeLaw u) (λ v. v.0) gone (λ v w. (w, v.1))
    (IsSpared (watch_owned.owns z)) PushesAddressed
queue_rest u z p q views n step found w meets low free does bound kept =
    let law = meets.law in
    let qs = queues views in
    let ws = watches views in
    let v = get_or views n gone in
    let long = length-map views (λ (x : NewsView). x.0) in
    let stay = no_leave (watch_owned.owns z) (own_part p n) step free in
    let new : (x : Item) → Contains (pushes w) x
    → Contains (pushes (queue.view_at qs n)) x
    ⊎ (IsDelivery x.payload → (a : Address) × IsAddressed ws a × IsOf a x) =
    λ x here. ⊎_elim
    (λ old. inl (subst (λ (y : QueueView). Contains (taken_items y.pushed) x) (sym (queue_at views n)) old))
    (λ may. inr (may_address views n x may))
    (bound x here) in
    record {
      both = left_rest (WholeLaw u) (WatchLaw z) queue.first_view no_view
          (watch_owned.owns z) (watch_foreign z) p q views n step found w
          (meets_both u z p views meets) low free does tt kept;
      sent = subst (λ (l : List QueueView). AllAddressed l (watches (set views n (w, v.1))))
          (sym (queue_here views n w))
          (subst (λ (l : List View). AllAddressed (set qs n w) l)
          (sym (watch_same views n w))
          (sent_push qs ws n w (omega arith) new law.sent));
      left = subst (Gone q) (sym (watch_same views n w))
          (gone_same p q ws (does_left p q n step found stay does) law.left);
    }

pub watch_rest : (u : Ends) (z : Area)
    → KeepsRest (NewsLaw u z) (WatchLaw z) (λ v. v.1) gone (λ v w. (v.0, w))
    (IsSpared (queue_owned.owns u)) KeepsAll
watch_rest u z p q views n step found w meets low free does more kept =
    let law = meets.law in
    let qs = queues views in
    let ws = watches views in
    let v = get_or views n gone in
    let long = length-map views (λ (x : NewsView). x.1) in
    let stay = no_leave (queue_owned.owns u) (own_part p n) step free in
    record {
      both = right_rest (WholeLaw u) (WatchLaw z) queue.first_view no_view
          (queue_owned.owns u) (whole_foreign u) p q views n step found w
          (meets_both u z p views meets) low free does tt kept;
      sent = subst (λ (l : List QueueView). AllAddressed l (watches (set views n (v.0, w))))
          (sym (queue_same views n w))
          (subst (AllAddressed qs) (sym (watch_here views n w))
          (sent_keep qs ws n w (omega arith)
          (λ a has. more a (subst (λ (y : View). Contains y.addressed a) (watch_at views n) has))
          law.sent));
      left = subst (Gone q) (sym (watch_here views n w))
          (gone_same p q (set ws n w) (does_left p q n step found stay does)
          (gone_set p n ws w does.0.0 does.0.1 law.left));
    }

-- WHAT SUITS
pub none_suits : (v : NewsView) (w : QueueView) → w.pushed ≡ v.0.pushed → PushesAddressed v w
none_suits v w same x here =
    inl (subst (λ (l : List Taken). Contains (taken_items l) x) same here)

pub push_suits : (v : NewsView) (w : QueueView) (e : Taken) → w.pushed ≡ v.0.pushed ++ e ∷ []
    → MayPush v e.item → PushesAddressed v w
push_suits v w e more may x here = ⊎_elim (λ old. inl old)
    (λ is. inr (subst (MayPush v) is may))
    (Contains-push_cases (pushes v.0) e.item x
    (subst (λ l. Contains l x) (taken_append v.0.pushed (e ∷ []))
    (subst (λ (l : List Taken). Contains (taken_items l) x) more here)))
