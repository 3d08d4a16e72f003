-- The joint law of a queue and of observers: it holds at the start, and other steps and leaves keep it.
use Rattle.std.specs.List.{range_with_len}
use Rattle.std.proofs.Common.{◌≡◌, ◌≢◌, ◌⊎◌, ⊎_elim, ℕ, ◌<◌, List, [], ◌∷◌, ◌++◌, length, get_or, set, map, refl, sym, ap, subst, ◌∙◌, arith}
use Rattle.std.specs.Prelude.{Contains}
use Rattle.std.proofs.lemmas.Bool.{cases_lt}
use Rattle.std.proofs.lemmas.List.{get_or_past, length-map, map-set}
use Rattle.std.proofs.lemmas.List.FromFn.{length-map-range_with_len, get_or-map-range_with_len}
use Rattle.std.proofs.Math.ListN.{get_or-map}
use Rattle.plain_protocol.specs.plain_state.declared.act.PlainAct.{PlainAct}
use Rattle.plain_protocol.specs.plain_state.declared.act.PlainAct.TheVariants as act
use Rattle.plain_protocol.specs.plain_state.State.{Plain}
use Rattle.plain_protocol.specs.plain_state.Steps.{Does}
use Rattle.plain_protocol.specs.Acts.{IsCalm, IsForeign}
use Rattle.plain_protocol.specs.Laws.{Meets, Starts, KeptByCalm, KeptByForeign, KeptByLeave}
use Rattle.protocol_pairs.specs.Parts.{Both}
use Rattle.protocol_pairs.specs.Both.{both_start, both_calm, both_foreign, both_leave}
use Rattle.protocol_pairs.proofs.Notes.{none_in, noted_after, noted_before, noted_cases, noted_still}
use Rattle.queue_law.specs.declared.view.Item.{Item}
use Rattle.queue_law.specs.declared.view.Taken.{Taken}
use Rattle.queue_law.specs.declared.view.View.{View as QueueView}
use Rattle.queue_law.specs.Views.{view_of}
use Rattle.queue_law.specs.Views as queue
use Rattle.queue_law.specs.Chain.{Ends}
use Rattle.queue_law.specs.Lists.{taken_items}
use Rattle.queue_law.specs.Law.{WholeLaw}
use Rattle.queue_law.specs.Owned as queue_owned
use Rattle.queue_law.proofs.Left.{does_left}
use Rattle.queue_law.proofs.Whole.{whole_calm, whole_foreign, whole_leave, whole_start}
use Rattle.watch_law.specs.Payloads.{IsDelivery}
use Rattle.watch_law.specs.Views.{Address, View, view_at, no_view, IsAddressed}
use Rattle.watch_law.specs.Views as watch
use Rattle.watch_law.specs.Law.{Area, WatchLaw}
use Rattle.watch_law.specs.Owned as watch_owned
use Rattle.watch_law.specs.News.{NewsView, gone, queues, watches, owns, first_view, joined, IsOf, AllAddressed, Gone, NewsLaw}
use Rattle.watch_law.proofs.Left.{gone_leave, gone_same, gone_start}
use Rattle.watch_law.proofs.Leave.{watch_leave}
use Rattle.watch_law.proofs.Quiet.{watch_calm, watch_foreign}
use Rattle.watch_law.proofs.Start.{watch_start}
use Rattle.watch_law.proofs.Changed.{addresses}

pub taken_append : (xs ys : List Taken) → taken_items (xs ++ ys) ≡ taken_items xs ++ taken_items ys
taken_append [] ys = refl
taken_append (x ∷ xs) ys = ap (λ l. x.item ∷ l) (taken_append xs ys)

abbrev pub pushes : QueueView → List Item
pushes v = taken_items v.pushed

-- WHERE A VIEW CHANGES
pub sent_push : (qs : List QueueView) (ws : List View) (n : ℕ) (w : QueueView) → n < length qs
    → ((x : Item) → Contains (pushes w) x
    → Contains (pushes (queue.view_at qs n)) x
    ⊎ (IsDelivery x.payload → (a : Address) × IsAddressed ws a × IsOf a x))
    → AllAddressed qs ws → AllAddressed (set qs n w) ws
sent_push qs ws n w low new sent x was is = ⊎_elim
    (λ here. ⊎_elim (λ old. sent x (n, old) is) (λ may. may is) (new x here))
    (λ old. sent x old is)
    (noted_cases queue.first_view pushes qs n w low x was)

pub sent_keep : (qs : List QueueView) (ws : List View) (n : ℕ) (w : View) → n < length ws
    → ((a : Address) → Contains (view_at ws n).addressed a → Contains w.addressed a)
    → AllAddressed qs ws → AllAddressed qs (set ws n w)
sent_keep qs ws n w low more sent x was is =
    let s = sent x was is in (s.0, noted_still no_view addresses ws n w low more s.0 s.1, s.2)

sent_leave : (qs : List QueueView) (ws : List View) (j : ℕ) → j < length qs → j < length ws → j ≢ 0
    → AllAddressed qs ws
    → AllAddressed
    (set (set qs 0 (queue.joined (queue.view_at qs 0) (queue.view_at qs j))) j queue.first_view)
    (set (set ws 0 (watch.joined (view_at ws 0) (view_at ws j))) j no_view)
sent_leave qs ws j low there other sent x was is =
    let old = noted_before queue.first_view pushes queue.joined refl
    (λ a b. taken_append a.pushed b.pushed) qs j low other x was in
    let s = sent x old is in (
      s.0,
      noted_after no_view addresses watch.joined refl (λ a b. refl) ws j there other s.0 s.1,
      s.2,
    )

-- THE WHOLE
pub meets_both : (u : Ends) (z : Area) (p : Plain) (views : List NewsView)
    → Meets (NewsLaw u z) p views → Meets (Both (WholeLaw u) (WatchLaw z)) p views
meets_both u z p views meets =
    record { lawful = meets.lawful; count = meets.count; law = meets.law.both }

stays : (u : Ends) (z : Area) (p q : Plain) (n : ℕ) (step : PlainAct) (found : ℕ)
    (views : List NewsView) → NewsLaw u z p views → ((j : ℕ) → step ≢ act.Leave j)
    → Does p n step found q → Both (WholeLaw u) (WatchLaw z) q views → NewsLaw u z q views
stays u z p q n step found views law stay does kept = record {
  both = kept;
  sent = law.sent;
  left = gone_same p q (watches views) (does_left p q n step found stay does) law.left;
}

pub news_calm : (u : Ends) (z : Area) → KeptByCalm (NewsLaw u z)
news_calm u z p q n step found views meets calm does =
    stays u z p q n step found views meets.law (λ j e. subst IsCalm e calm) does
    (both_calm (WholeLaw u) (WatchLaw z) (whole_calm u) (watch_calm z) p q n step found views
    (meets_both u z p views meets) calm does)

pub news_foreign : (u : Ends) (z : Area) → KeptByForeign (NewsLaw u z) (owns u z)
news_foreign u z p q n step found views meets foreign does =
    stays u z p q n step found views meets.law (λ j e. subst (IsForeign (owns u z) p) e foreign) does
    (both_foreign (WholeLaw u) (WatchLaw z) (queue_owned.owns u) (watch_owned.owns z)
    (whole_foreign u) (watch_foreign z) p q n step found views (meets_both u z p views meets) foreign
    does)

module _ {W : Type 0} (f : NewsView → W) (join : W → W → W)
    (each : (v w : NewsView) → f (joined v w) ≡ join (f v) (f w)) (views : List NewsView) (j : ℕ) where
  -- what is read off the views after a leave
  left_lists : map f (set (set views 0 (joined (get_or views 0 gone) (get_or views j gone))) j gone)
      ≡ set (set (map f views) 0 (join (get_or (map f views) 0 (f gone))
      (get_or (map f views) j (f gone)))) j (f gone)
  left_lists =
      let one = joined (get_or views 0 gone) (get_or views j gone) in
      let root = get_or-map f views 0 gone in
      let leaver = get_or-map f views j gone in
      map-set f (set views 0 one) j gone
      ∙ ap (λ (l : List W). set l j (f gone))
      (map-set f views 0 one ∙ ap (set (map f views) 0)
      (each (get_or views 0 gone) (get_or views j gone)
      ∙ (ap (λ (v : W). join v (f (get_or views j gone))) (sym root)
      ∙ ap (λ (v : W). join (get_or (map f views) 0 (f gone)) v) (sym leaver))))

pub news_leave : (u : Ends) (z : Area) → KeptByLeave (NewsLaw u z) joined gone
news_leave u z p q j found views meets does =
    let law = meets.law in
    let count = meets.count in
    let there = does.1.2 in
    let qs = queues views in
    let ws = watches views in
    let lq = length-map views (λ (v : NewsView). v.0) in
    let lw = length-map views (λ (v : NewsView). v.1) in
    let eq = left_lists (λ (v : NewsView). v.0) queue.joined (λ v w. refl) views j in
    let ew = left_lists (λ (v : NewsView). v.1) watch.joined (λ v w. refl) views j in
    let one = joined (get_or views 0 gone) (get_or views j gone) in
    let after = set (set views 0 one) j gone in
    record {
      both = both_leave (WholeLaw u) (WatchLaw z) queue.joined watch.joined queue.first_view
          no_view (whole_leave u) (watch_leave z) p q j found views
          (meets_both u z p views meets) does;
      sent = subst (λ (l : List QueueView). AllAddressed l (watches after)) (sym eq)
          (subst (λ (l : List View). AllAddressed
          (set (set qs 0 (queue.joined (queue.view_at qs 0) (queue.view_at qs j))) j
          queue.first_view) l) (sym ew)
          (sent_leave qs ws j (omega arith) (omega arith) does.1.1 law.sent));
      left = subst (Gone q) (sym ew) (gone_leave p q j found ws (omega arith) does law.left);
    }

none_pushed : (u : Ends) (seats n : ℕ)
    → (queue.view_at (queues (map (first_view u) (range_with_len 0 seats))) n).pushed ≡ []
none_pushed u seats n =
    let views = map (first_view u) (range_with_len 0 seats) in
    let long = length-map-range_with_len (first_view u) 0 seats in
    ap (λ (v : QueueView). v.pushed) (get_or-map (λ (v : NewsView). v.0) views n gone)
    ∙ ⊎_elim
    (λ low. ap (λ (v : NewsView). v.0.pushed)
    (get_or-map-range_with_len (first_view u) 0 seats n n gone low (omega arith)))
    (λ past. ap (λ (v : NewsView). v.0.pushed) (get_or_past views n gone (omega arith)))
    (cases_lt n seats)

pub news_start : (u : Ends) (z : Area) → Starts (NewsLaw u z) (first_view u)
news_start u z seats slots cells weak_cells =
    let views = map (first_view u) (range_with_len 0 seats) in
    let long = length-map-range_with_len (first_view u) 0 seats in
    let ld = length-map views (λ (v : NewsView). v.1) in
    record {
      both = both_start (WholeLaw u) (WatchLaw z) (view_of u.form) watch.first_view
          (whole_start u) (watch_start z) seats slots cells weak_cells;
      sent = λ x was. absurd (none_in x (subst (λ (l : List Taken). Contains (taken_items l) x)
          (none_pushed u seats was.0) was.1));
      left = gone_start seats slots cells weak_cells (watches views) (omega arith);
    }
