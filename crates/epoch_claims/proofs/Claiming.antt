-- Slots are claimed as often as makes are used, and what was claimed stays so.
use Rattle.std.proofs.Common.{◌≡◌, ⊎_elim, ℕ, ◌+◌, ◌≤◌, List, [], ◌∷◌, ◌++◌, length, refl, ap, sym, subst, arith, length-append}
use Rattle.core_law.proofs.Kit.{times_append, times_none}
use Rattle.core_law.specs.core_events.declared.shape.Quota.{Quota}
use Rattle.core_law.specs.core_events.Views.{alone}
use Rattle.core_law.specs.plain_state.declared.slot.SlotId.{SlotId}
use Rattle.core_law.specs.plain_state.Lists.{times}
use Rattle.epoch_core.proofs.Keeps.{history_sound}
use Rattle.epoch_core.proofs.Kit.{total_set}
use Rattle.epoch_core.proofs.Leaves.{total_two}
use Rattle.epoch_core.proofs.Starts.{total_none}
use Rattle.epoch_core.specs.declared.act.EpochAct.{EpochAct}
use Rattle.epoch_core.specs.declared.act.EpochAct.TheVariants as act
use Rattle.epoch_core.specs.declared.act.EpochEvent.{EpochEvent}
use Rattle.epoch_core.specs.declared.outcome.EpochOutcome.TheVariants as outcome
use Rattle.epoch_core.specs.declared.shape.EpochShape.{EpochShape}
use Rattle.epoch_core.specs.declared.view.EpochView.{EpochView}
use Rattle.epoch_core.specs.Counts.{total}
use Rattle.epoch_core.specs.Runs.{AreQuotas, Core, Enabled, History, IsShape, after, found, left_behind, taken_over, view_at}
use Rattle.epoch_core.specs.Shows.{filled}
use Rattle.epoch_core.specs.Sound.{Sound}
use Rattle.epoch_core.specs.Steps.{CanLeave, answer, moved, noted}
use Rattle.epoch_rule.proofs.Views.{is_leave, views_plain}
use Rattle.epoch_claims.specs.Claims.{claimed, claims, makes_used}
use Rattle.epoch_claims.proofs.Going.{claims_go, grows, won}

-- a number of a view that no noting changes, and that two seats have together after a leave as before it
pub record Counts (f : EpochView → ℕ) : Type 0 where
  pub noted : (v : EpochView) (j : ℕ) → f (noted (act.Leave j) outcome.Plain v) ≡ f v
  pub left :
      (r v : EpochView) → CanLeave r → CanLeave v
      → f (taken_over r v) + f (left_behind v) ≡ f r + f v

module _ (z : EpochShape) (c : Core) (so : Sound z c) (n : ℕ) (a : EpochAct) (on : Enabled z c n a)
  where
    abbrev before : EpochView
    before = view_at c n

    abbrev later : EpochView
    later = moved z a (found z c n a) (view_at c n)

    -- what an event adds to such a number of all seats
    pub sum_after : (f : EpochView → ℕ) → Counts f
        → total f (after z c n a).views + f before ≡ total f c.views + f later
    sum_after f counts = ⊎_elim
        (λ (l : (j : ℕ) × (a ≡ act.Leave j)).
        subst (λ (b : EpochAct). total f (after z c n b).views + f before
        ≡ total f c.views + f (moved z b (found z c n b) (view_at c n))) (sym l.1)
        (leave l.0 (subst (λ (b : EpochAct). Enabled z c n b) l.1 on)))
        (λ (stays : (j : ℕ) → a ≡ act.Leave j → ⊥).
        let e = ap (total f) (views_plain z c n a stays) in
        let s = total_set f c.views n later on.0 in omega arith)
        (is_leave a)
      where
        leave : (j : ℕ) → Enabled z c n (act.Leave j)
            → total f (after z c n (act.Leave j)).views + f before
            ≡ total f c.views
            + f (moved z (act.Leave j) (found z c n (act.Leave j)) (view_at c n))
        leave j leaves =
            let there = leaves.0 in
            let views = so.views in
            let may = leaves.1 in
            let far = may.2 in
            let number = (so.seats n (omega arith)).number in
            let first = may.0 in
            let root : n ≡ 0 = omega arith in
            let idle = subst (λ (m : ℕ). CanLeave (view_at c m)) root may.3 in
            let two = counts.left (view_at c 0) (view_at c j) idle leaves.2 in
            let joined = counts.noted (taken_over (view_at c 0) (view_at c j)) j in
            let same = counts.noted (view_at c n) j in
            let sum = total_two f c.views j
            (noted (act.Leave j) outcome.Plain (taken_over (view_at c 0) (view_at c j)))
            (left_behind (view_at c j)) (omega arith) (omega arith) may.1 (omega arith) in
            omega arith

    -- what the event adds to the claims of its seat
    pub one_claim : claimed later ≡ claimed before ++ won a (answer a (found z c n a) before)
    one_claim = claims_go z a (found z c n a) before on.1

-- a seat that may leave is making nothing
idle_claimed : (v : EpochView) → CanLeave v → alone (filled v.phase) ≡ []
idle_claimed v leaves = ap (λ p. alone (filled p)) leaves.0.0

pub makes_count : Counts (λ v. v.makes)
makes_count = record { noted = λ v j. refl; left = λ r v root left. refl }

pub claims_count : Counts (λ v. length (claimed v))
claims_count = record {
  noted = λ v j. refl;
  left = λ r v root left.
      let e = ap length (idle_claimed r root) in
      let f = ap length (idle_claimed v left) in
      let p = length-append r.made v.made in
      let q = length-append (r.made ++ v.made) (alone (filled r.phase)) in
      let m = length-append r.made (alone (filled r.phase)) in
      let t = length-append v.made (alone (filled v.phase)) in omega arith;
}

pub times_count : (s : SlotId) → Counts (λ v. times s (claimed v))
times_count s = record {
  noted = λ v j. refl;
  left = λ r v root left.
      let e = ap (times s) (idle_claimed r root) in
      let f = ap (times s) (idle_claimed v left) in
      let nothing = times_none s in
      let p = times_append s r.made v.made in
      let q = times_append s (r.made ++ v.made) (alone (filled r.phase)) in
      let m = times_append s r.made (alone (filled r.phase)) in
      let t = times_append s v.made (alone (filled v.phase)) in
      let u = times_append s [] (alone (filled v.phase)) in omega arith;
}

module _ (z : EpochShape) (c : Core) (so : Sound z c) (n : ℕ) (a : EpochAct) (on : Enabled z c n a)
  where
    -- the seats have claimed s as often as before, or more often
    pub claims_stay : (s : SlotId) → claims c s ≤ claims (after z c n a) s
    claims_stay s =
        let sum = sum_after z c so n a on (λ v. times s (claimed v)) (times_count s) in
        let e = ap (times s) (one_claim z c so n a on) in
        let p = times_append s (claimed (view_at c n)) (won a (answer a (found z c n a) (view_at c n))) in
        omega arith

    -- as many claims come as makes are used
    both_grow : total (λ v. length (claimed v)) c.views ≡ makes_used c
        → total (λ v. length (claimed v)) (after z c n a).views ≡ makes_used (after z c n a)
    both_grow same =
        let sum = sum_after z c so n a on (λ v. length (claimed v)) claims_count in
        let makes = sum_after z c so n a on (λ v. v.makes) makes_count in
        let e = ap length (one_claim z c so n a on) in
        let p = length-append (claimed (view_at c n)) (won a (answer a (found z c n a) (view_at c n))) in
        let g = (grows z a (found z c n a) (view_at c n)).makes in omega arith

pub claims_are_makes : (z : EpochShape) (qs : List Quota) (es : List EpochEvent) (c : Core)
    → IsShape z → AreQuotas z qs → History z qs es c
    → total (λ v. length (claimed v)) c.views ≡ makes_used c
claims_are_makes z qs [] c shape quotas h =
    subst (λ (d : Core). total (λ v. length (claimed v)) d.views ≡ makes_used d) (sym h)
    (let a = total_none (λ v. length (claimed v)) z 0 qs (λ n q. refl) in
    let b = total_none (λ v. v.makes) z 0 qs (λ n q. refl) in omega arith)
claims_are_makes z qs (e ∷ es) c shape quotas h =
    subst (λ (d : Core). total (λ v. length (claimed v)) d.views ≡ makes_used d) (sym h.2.1)
    (both_grow z h.0 (history_sound z qs es h.0 shape quotas h.1) e.seat e.act h.2.0
    (claims_are_makes z qs es h.0 shape quotas h.1))
