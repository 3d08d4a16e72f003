-- Slots are claimed as often as makes are used, and what was claimed stays so.
use Rattle.std.proofs.Common.{◌≡◌, ℕ, ◌+◌, ◌≤◌, List, [], ◌++◌, length, refl, ap, arith, length-append}
use Rattle.core_promises.specs.plain_state.declared.slot.SlotId.{SlotId}
use Rattle.core_promises.specs.plain_state.Lists.{times}
use Rattle.core_promises.specs.core_events.declared.act.Act.{Act}
use Rattle.core_promises.specs.core_events.declared.act.Event.{Event}
use Rattle.core_promises.specs.core_events.declared.shape.Shape.{Shape}
use Rattle.core_promises.specs.core_events.declared.view.CoreView.{CoreView}
use Rattle.core_promises.specs.core_events.Counts.{total}
use Rattle.core_promises.specs.core_events.Runs.{AreTerms, Core, Enabled, History, IsShape, after, found, view_at}
use Rattle.core_promises.specs.core_events.Shows.{filled}
use Rattle.core_promises.specs.core_events.Steps.{CanLeave, answer, moved}
use Rattle.core_promises.specs.core_events.Views.{Terms, alone}
use Rattle.core_promises.specs.core_law.Sound.{Sound}
use Rattle.core_promises.proofs.Below.core_law_Kit.{times_append, times_none}
use Rattle.core_promises.proofs.Below.core_law_Starts.{total_none}
use Rattle.core_promises.proofs.Below.core_law_Bridge.{total_zero}
use Rattle.claim_law.specs.Claims.{claimed, claims, makes_used}
use Rattle.claim_law.proofs.Going.{claims_go, grows, won}
use Rattle.claim_law.proofs.Totals.{LagsLeft, SumLags, always_lags, sum_lags}

-- how often a seat has claimed a slot, and the makes that it has used
abbrev pub claim_count : CoreView → ℕ
claim_count v = length (claimed v)

abbrev make_count : CoreView → ℕ
make_count v = v.makes

-- a seat that may leave is making nothing
idle_claimed : (v : CoreView) → CanLeave v → alone (filled v.phase) ≡ []
idle_claimed v leaves = ap (λ p. alone (filled p)) leaves.0.0

module _ (z : Shape) (c : Core) (so : Sound z c) (n : ℕ) (a : Act) (on : Enabled z c n a) where
  -- what the event adds to the claims of its seat
  pub one_claim : claimed (moved z a (found z c n a) (view_at c n))
      ≡ claimed (view_at c n) ++ won a (answer z a (found z c n a) (view_at c n))
  one_claim = claims_go z a (found z c n a) (view_at c n) on.1

  -- the seats have claimed s as often as before, or more often
  pub claims_stay : (s : SlotId) → claims c s ≤ claims (after z c n a) s
  claims_stay s =
      let none = total_zero (λ v. 0) c.views (λ m h. refl) in
      let none_then = total_zero (λ v. 0) (after z c n a).views (λ m h. refl) in
      let lags = sum_lags z c so (λ v. 0) (λ v. times s (claimed v)) n a on
      (let e = ap (times s) one_claim in
      let p = times_append s (claimed (view_at c n))
      (won a (answer z a (found z c n a) (view_at c n))) in omega arith)
      (λ j hj root left.
      let e = ap (times s) (idle_claimed (view_at c 0) root) in
      let f = ap (times s) (idle_claimed (view_at c j) left) in
      let nothing = times_none s in
      let p = times_append s (view_at c 0).made (view_at c j).made in
      let q = times_append s ((view_at c 0).made ++ (view_at c j).made)
      (alone (filled (view_at c 0).phase)) in
      let r = times_append s (view_at c 0).made (alone (filled (view_at c 0).phase)) in
      let t = times_append s (view_at c j).made (alone (filled (view_at c j).phase)) in
      let u = times_append s [] (alone (filled (view_at c j).phase)) in omega arith) in
      omega arith

  -- as many claims come as makes are used
  both_grow : claim_count (moved z a (found z c n a) (view_at c n)) + (view_at c n).makes
      ≡ (moved z a (found z c n a) (view_at c n)).makes + claim_count (view_at c n)
  both_grow =
      let e = ap length one_claim in
      let p = length-append (claimed (view_at c n))
      (won a (answer z a (found z c n a) (view_at c n))) in
      let g = (grows z a (found z c n a) (view_at c n)).makes in omega arith

  both_leave : (j : ℕ) → CanLeave (view_at c 0) → CanLeave (view_at c j)
      → LagsLeft claim_count make_count j (view_at c 0) (view_at c j)
      × LagsLeft make_count claim_count j (view_at c 0) (view_at c j)
  both_leave j root left =
      let e = ap length (idle_claimed (view_at c 0) root) in
      let f = ap length (idle_claimed (view_at c j) left) in
      let p = length-append (view_at c 0).made (view_at c j).made in
      let q = length-append ((view_at c 0).made ++ (view_at c j).made)
      (alone (filled (view_at c 0).phase)) in
      let r = length-append (view_at c 0).made (alone (filled (view_at c 0).phase)) in
      let t = length-append (view_at c j).made (alone (filled (view_at c j).phase)) in
      (omega arith, omega arith)

  claims_lag : SumLags claim_count make_count c (after z c n a)
  claims_lag = let b = both_grow in
      sum_lags z c so claim_count make_count n a on (omega arith)
      (λ j hj root left. (both_leave j root left).0)

  makes_lag : SumLags make_count claim_count c (after z c n a)
  makes_lag = let b = both_grow in
      sum_lags z c so make_count claim_count n a on (omega arith)
      (λ j hj root left. (both_leave j root left).1)

pub claims_are_makes : (z : Shape) (ts : Terms) (es : List Event) (c : Core) → IsShape z
    → AreTerms z ts → History z ts es c → total (λ v. length (claimed v)) c.views ≡ makes_used c
claims_are_makes z ts es c shape terms h =
    let no_claims = total_none claim_count z 0 ts.quotas ts.grants (λ n q. refl) in
    let no_makes = total_none make_count z 0 ts.quotas ts.grants (λ n q. refl) in
    let most = always_lags z ts claim_count make_count shape terms (omega arith)
    (λ hs d n a before so on. claims_lag z d so n a on) es c h in
    let least = always_lags z ts make_count claim_count shape terms (omega arith)
    (λ hs d n a before so on. makes_lag z d so n a on) es c h in omega arith
