-- The makes that are used are at most those that were given: of all quotas, and of all grants.
use Rattle.std.proofs.Common.{◌≡◌, ℕ, ◌+◌, ◌<◌, ◌≤◌, Bool, true, false, List, [], ◌∷◌, refl, ap, sym, ◌∙◌, subst, arith}
use Rattle.std.specs.Prelude.{if◌then◌else◌, sum_by}
use Rattle.std.proofs.lemmas.List.Sums.{sum_by-cons, sum_by_push}
use Rattle.core_promises.specs.core_events.declared.act.Act.{Act}
use Rattle.core_promises.specs.core_events.declared.act.Event.{Event}
use Rattle.core_promises.specs.core_events.declared.shape.Shape.{Shape}
use Rattle.core_promises.specs.core_events.declared.shape.Quota.{Quota}
use Rattle.core_promises.specs.core_events.declared.view.CoreView.{CoreView}
use Rattle.core_promises.specs.core_events.declared.view.LeftSeat.{LeftSeat}
use Rattle.core_promises.specs.core_events.Counts.{total}
use Rattle.core_promises.specs.core_events.Runs.{AreTerms, Core, Enabled, History, IsShape, after, found, view_at}
use Rattle.core_promises.specs.core_events.Steps.{HasMake, moved}
use Rattle.core_promises.specs.core_events.Views.{Terms, first_view, first_views, granted}
use Rattle.core_promises.specs.core_law.Sound.{Sound}
use Rattle.core_promises.proofs.Below.core_law_Starts.{first_at, length_views}
use Rattle.core_promises.proofs.Below.core_law_Always.{history_sound}
use Rattle.core_promises.proofs.Below.core_law_Grants.{history_grants}
use Rattle.core_promises.proofs.Below.core_law_Trails.{changed_trail}
use Rattle.core_promises.proofs.Below.core_law_Bridge.{total_zero}
use Rattle.core_promises.proofs.Below.core_law_Lists.{total_plus}
use Rattle.claim_law.specs.Claims.{makes_given, makes_used}
use Rattle.claim_law.proofs.Counting.{EachMost, total_cons, total_gap, total_most, total_nil}
use Rattle.claim_law.proofs.Going.{grows}
use Rattle.claim_law.proofs.Pooled.{all_granted, grants_fit}
use Rattle.claim_law.proofs.Totals.{SumLags, always_lags, maker_here, sum_lags}

no_quota : Quota
no_quota = record { makes = 0; adds = 0 }

abbrev quota_of : CoreView → ℕ
quota_of v = v.quota.makes

-- what a seat has used, if it left, and else what it may use
abbrev committed : List ℕ → CoreView → ℕ
committed gs v = if v.left then v.makes else v.quota.makes + granted gs v.tickets

-- its quota, and what its tickets grant and those that were left to it
abbrev given : List ℕ → CoreView → ℕ
given gs v = v.quota.makes + all_granted gs v

here : (gs : List ℕ) (v : CoreView) → v.left ≡ false
    → committed gs v ≡ v.quota.makes + granted gs v.tickets
here gs v stays = rw stays refl

module _ (z : Shape) (ts : Terms) (shape : IsShape z) (terms : AreTerms z ts) where
  -- each seat has the grants of the domain
  same_grants : (es : List Event) (c : Core) (m : ℕ) → History z ts es c → m < z.seats
      → (view_at c m).grants ≡ ts.grants
  same_grants es c m h hm = history_grants z ts es c h m (let e = terms.0 in omega arith)

  -- and has used no more than its quota and its tickets allow
  few_makes : (es : List Event) (c : Core) (m : ℕ) → History z ts es c → Sound z c → m < z.seats
      → (view_at c m).left ≡ false
      → (view_at c m).makes ≤ (view_at c m).quota.makes + granted ts.grants (view_at c m).tickets
  few_makes es c m h so hm stays =
      let most = (so.seats m hm).makes stays in
      let e = ap (λ (gs : List ℕ). granted gs (view_at c m).tickets) (same_grants es c m h hm) in
      omega arith

  module _ (es : List Event) (c : Core) (h : History z ts es c) (so : Sound z c) (n : ℕ) (a : Act)
      (on : Enabled z c n a) where
    committed_lags : SumLags (committed ts.grants) (given ts.grants) c (after z c n a)
    committed_lags = sum_lags z c so (committed ts.grants) (given ts.grants) n a on
        (let v : CoreView = view_at c n in
        let u : CoreView = moved z a (found z c n a) v in
        let stays = maker_here z c so n a on in
        let same = changed_trail z a (found z c n a) v in
        let old = here ts.grants v stays in
        let new = here ts.grants u (same.left ∙ stays) in
        let past = ap (sum_by (λ (l : LeftSeat). granted ts.grants l.tickets)) same.left_seats in
        omega arith)
        (λ j hj root left.
        let r : CoreView = view_at c 0 in
        let v : CoreView = view_at c j in
        let old = here ts.grants r root.0.1 in
        let theirs = here ts.grants v left.0.1 in
        let l : LeftSeat = record { seat = v.seat; trail = v.trail; tickets = v.tickets } in
        let push = sum_by_push (λ (x : LeftSeat). granted ts.grants x.tickets) r.left_seats l in
        let few = few_makes es c j h so hj left.0.1 in omega arith)

    quotas_lag : total quota_of (after z c n a).views ≤ total quota_of c.views
    quotas_lag =
        let none = total_zero (λ v. 0) c.views (λ m i. refl) in
        let none_then = total_zero (λ v. 0) (after z c n a).views (λ m i. refl) in
        let lags = sum_lags z c so quota_of (λ v. 0) n a on
        (let same = ap (λ (q : Quota). q.makes) (grows z a (found z c n a) (view_at c n)).quota in
        omega arith)
        (λ j hj root left. omega arith) in omega arith

  first_quotas : (i : ℕ) (qs : List Quota) (gs : List ℕ)
      → total quota_of (first_views z i qs gs) ≡ sum_by (λ (q : Quota). q.makes) qs
  first_quotas i [] gs = total_nil quota_of
  first_quotas i (q ∷ qs) gs =
      let a = total_cons quota_of (first_view z i q gs) (first_views z (i + 1) qs gs) in
      let b = sum_by-cons (λ (p : Quota). p.makes) q qs in
      let r = first_quotas (i + 1) qs gs in omega arith

  quotas_fit : (es : List Event) (c : Core) → History z ts es c
      → total quota_of c.views ≤ sum_by (λ (q : Quota). q.makes) ts.quotas
  quotas_fit [] c h = subst
      (λ (d : Core). total quota_of d.views ≤ sum_by (λ (q : Quota). q.makes) ts.quotas)
      (sym h) (let e = first_quotas 0 ts.quotas ts.grants in omega arith)
  quotas_fit (e ∷ es) c h =
      let so = history_sound z ts es h.0 shape terms h.1 in
      let before = quotas_fit es h.0 h.1 in
      let step = quotas_lag es h.0 h.1 so e.seat e.act h.2.0 in
      subst (λ (d : Core). total quota_of d.views ≤ sum_by (λ (q : Quota). q.makes) ts.quotas)
      (sym h.2.1) (omega arith)

  first_most : EachMost (committed ts.grants) (given ts.grants)
      (first_views z 0 ts.quotas ts.grants)
  first_most m hm =
      let l = length_views z 0 ts.quotas ts.grants in
      subst (λ (v : CoreView). committed ts.grants v ≤ given ts.grants v)
      (sym (first_at z 0 m ts.quotas ts.grants no_quota (omega arith))) (omega arith)

  module _ (es : List Event) (c : Core) (h : History z ts es c) where
    committed_fit : total (committed ts.grants) c.views ≤ makes_given ts
    committed_fit =
        let so = history_sound z ts es c shape terms h in
        let most = always_lags z ts (committed ts.grants) (given ts.grants) shape terms
        (total_most (committed ts.grants) (given ts.grants) (first_views z 0 ts.quotas ts.grants)
        first_most)
        (λ hs d n a before sound on. committed_lags hs d before sound n a on) es c h in
        let split = total_plus quota_of (all_granted ts.grants) c.views in
        let quotas = quotas_fit es c h in
        let grants = grants_fit z c ts.grants so.tickets in omega arith

    each_most : EachMost (λ v. v.makes) (committed ts.grants) c.views
    each_most m hm = go (view_at c m).left refl
      where
        go : (b : Bool) → (view_at c m).left ≡ b
            → (view_at c m).makes ≤ committed ts.grants (view_at c m)
        go true gone = rw gone (omega arith)
        go false stays =
            let so = history_sound z ts es c shape terms h in
            let views = so.views in
            let few = few_makes es c m h so (omega arith) stays in
            let is = here ts.grants (view_at c m) stays in omega arith

    pub makes_fit : makes_used c ≤ makes_given ts
    makes_fit =
        let most = total_most (λ v. v.makes) (committed ts.grants) c.views each_most in
        let fit = committed_fit in omega arith

    -- where a seat has one left they are fewer
    pub makes_spare : (n : ℕ) → n < z.seats → (view_at c n).left ≡ false → HasMake (view_at c n)
        → makes_used c < makes_given ts
    makes_spare n hn stays left =
        let so = history_sound z ts es c shape terms h in
        let views = so.views in
        let gap = total_gap (λ v. v.makes) (committed ts.grants) c.views n each_most
        (omega arith) in
        let is = here ts.grants (view_at c n) stays in
        let e = ap (λ (gs : List ℕ). granted gs (view_at c n).tickets)
        (same_grants es c n h hn) in
        let fit = committed_fit in omega arith
