-- The makes that are used are at most those that were given.
use Rattle.std.proofs.Common.{◌≡◌, ℕ, ◌+◌, ◌<◌, ◌≤◌, List, [], ◌∷◌, refl, ap, sym, subst, arith}
use Rattle.std.proofs.lemmas.List.Sums.{sum_by-cons}
use Rattle.core_law.specs.core_events.declared.shape.Quota.{Quota}
use Rattle.epoch_core.proofs.Keeps.{history_sound}
use Rattle.epoch_core.specs.declared.act.EpochEvent.{EpochEvent}
use Rattle.epoch_core.specs.declared.shape.EpochShape.{EpochShape}
use Rattle.epoch_core.specs.declared.view.EpochView.{EpochView}
use Rattle.epoch_core.specs.Counts.{total}
use Rattle.epoch_core.specs.Runs.{AreQuotas, Core, History, IsShape, found, view_at}
use Rattle.epoch_core.specs.Steps.{HasMake}
use Rattle.epoch_core.specs.Views.{first_view, first_views}
use Rattle.epoch_claims.specs.Claims.{makes_given, makes_used}
use Rattle.epoch_claims.proofs.Claiming.{Counts, sum_after}
use Rattle.epoch_claims.proofs.Counting.{EachMost, total_cons, total_gap, total_most, total_nil}
use Rattle.epoch_claims.proofs.Going.{grows}

abbrev quota_of : EpochView → ℕ
quota_of v = v.quota.makes

quotas_count : Counts quota_of
quotas_count = record { noted = λ v j. refl; left = λ r v root left. refl }

first_quotas : (z : EpochShape) (i : ℕ) (qs : List Quota)
    → total quota_of (first_views z i qs) ≡ makes_given qs
first_quotas z i [] = total_nil quota_of
first_quotas z i (q ∷ qs) =
    let a = total_cons quota_of (first_view z i q) (first_views z (i + 1) qs) in
    let b = sum_by-cons (λ (p : Quota). p.makes) q qs in
    let r = first_quotas z (i + 1) qs in omega arith

module _ (z : EpochShape) (qs : List Quota) (shape : IsShape z) (quotas : AreQuotas z qs) where
  -- the quotas stay as they were given
  quotas_stay : (es : List EpochEvent) (c : Core) → History z qs es c
      → total quota_of c.views ≡ makes_given qs
  quotas_stay [] c h =
      subst (λ (d : Core). total quota_of d.views ≡ makes_given qs) (sym h) (first_quotas z 0 qs)
  quotas_stay (e ∷ es) c h =
      let so = history_sound z qs es h.0 shape quotas h.1 in
      let before = quotas_stay es h.0 h.1 in
      let sum = sum_after z h.0 so e.seat e.act h.2.0 quota_of quotas_count in
      let same = ap (λ (q : Quota). q.makes)
      (grows z e.act (found z h.0 e.seat e.act) (view_at h.0 e.seat)).quota in
      subst (λ (d : Core). total quota_of d.views ≡ makes_given qs) (sym h.2.1) (omega arith)

  module _ (es : List EpochEvent) (c : Core) (h : History z qs es c) where
    each_most : EachMost (λ v. v.makes) quota_of c.views
    each_most m hm =
        let so = history_sound z qs es c shape quotas h in
        let views = so.views in (so.seats m (omega arith)).makes

    pub makes_fit : makes_used c ≤ makes_given qs
    makes_fit =
        let most = total_most (λ v. v.makes) quota_of c.views each_most in
        let given = quotas_stay es c h in omega arith

    -- they are fewer by what any seat has left
    pub makes_less : (n : ℕ) → n < z.seats
        → makes_used c + (view_at c n).quota.makes ≤ makes_given qs + (view_at c n).makes
    makes_less n hn =
        let so = history_sound z qs es c shape quotas h in
        let views = so.views in
        let gap = total_gap (λ v. v.makes) quota_of c.views n each_most (omega arith) in
        let given = quotas_stay es c h in omega arith

    -- where a seat has one left they are fewer
    pub makes_spare : (n : ℕ) → n < z.seats → HasMake (view_at c n) → makes_used c < makes_given qs
    makes_spare n hn left =
        let so = history_sound z qs es c shape quotas h in
        let views = so.views in
        let gap = total_gap (λ v. v.makes) quota_of c.views n each_most (omega arith) in
        let given = quotas_stay es c h in omega arith
