-- What an event does to a sum over all seats.
use Rattle.std.proofs.Common.{◌≡◌, ◌≢◌, ⊎_elim, ℕ, ◌+◌, ◌<◌, ◌≤◌, false, List, [], ◌∷◌, set, ap, sym, ◌∙◌, subst, arith}
use Rattle.std.proofs.lemmas.List.{length-set, get_or-set_other}
use Rattle.core_promises.specs.plain_state.State.{PlainSeat}
use Rattle.core_promises.specs.core_events.declared.act.Act.{Act}
use Rattle.core_promises.specs.core_events.declared.act.Act.TheVariants as act
use Rattle.core_promises.specs.core_events.declared.act.Event.{Event}
use Rattle.core_promises.specs.core_events.declared.outcome.Outcome.TheVariants as outcome
use Rattle.core_promises.specs.core_events.declared.shape.Shape.{Shape}
use Rattle.core_promises.specs.core_events.declared.view.CoreView.{CoreView}
use Rattle.core_promises.specs.core_events.Counts.{total}
use Rattle.core_promises.specs.core_events.Runs.{AreTerms, Core, Enabled, History, IsShape, after, found, left_behind, start, taken_over, view_at}
use Rattle.core_promises.specs.core_events.Steps.{CanLeave, moved, noted}
use Rattle.core_promises.specs.core_events.Views.{Terms, no_view}
use Rattle.core_promises.specs.core_law.Sound.{Sound}
use Rattle.core_promises.proofs.Below.core_law_Joined as joined
use Rattle.core_promises.proofs.Below.core_law_Kit.{total_set}
use Rattle.core_promises.proofs.Below.core_law_Always.{history_sound, is_leave}
use Rattle.core_promises.proofs.Below.core_law_Trails.{views_plain}
use Rattle.core_promises.proofs.Below.core_law_Bridge.{shown_seat}
use Rattle.core_promises.proofs.Below.core_law_Seats.{enabled_seat}

-- f grows by no more than g does
abbrev pub Lags : (CoreView → ℕ) → (CoreView → ℕ) → CoreView → CoreView → Type 0
Lags f g v u = f u + g v ≤ g u + f v

-- nor where seat 0 takes over what another has
abbrev pub LagsLeft : (CoreView → ℕ) → (CoreView → ℕ) → ℕ → CoreView → CoreView → Type 0
LagsLeft f g j root v =
    f (noted (act.Leave j) outcome.Plain (taken_over root v)) + f (left_behind v) + (g root + g v)
    ≤ g (noted (act.Leave j) outcome.Plain (taken_over root v)) + g (left_behind v) + (f root + f v)

-- the sum of f grows by no more than that of g
abbrev pub SumLags : (CoreView → ℕ) → (CoreView → ℕ) → Core → Core → Type 0
SumLags f g c d = total f d.views + total g c.views ≤ total g d.views + total f c.views

module _ (z : Shape) (c : Core) (so : Sound z c) where
  -- the seat of an event hasn't left
  pub maker_here : (n : ℕ) (a : Act) → Enabled z c n a → (view_at c n).left ≡ false
  maker_here n a on = sym (ap (λ (u : PlainSeat). u.left) (shown_seat z c n on.0))
      ∙ (enabled_seat z c n a so on).1

  plain_lags : (f g : CoreView → ℕ) (n : ℕ) (a : Act) → Enabled z c n a
      → ((j : ℕ) → a ≡ act.Leave j → ⊥)
      → Lags f g (view_at c n) (moved z a (found z c n a) (view_at c n))
      → SumLags f g c (after z c n a)
  plain_lags f g n a on stays lags =
      let u : CoreView = moved z a (found z c n a) (view_at c n) in
      let e = views_plain z c n a stays in
      let ef = ap (total f) e in
      let eg = ap (total g) e in
      let sf = total_set f c.views n u on.0 in
      let sg = total_set g c.views n u on.0 in omega arith

  -- both views that a leave changes
  leave_sum : (f : CoreView → ℕ) (j : ℕ) → j ≢ 0 → j < z.seats
      → total f (after z c 0 (act.Leave j)).views + (f (view_at c 0) + f (view_at c j))
      ≡ total f c.views
      + (f (noted (act.Leave j) outcome.Plain (taken_over (view_at c 0) (view_at c j)))
      + f (left_behind (view_at c j)))
  leave_sum f j other hj =
      let root : CoreView =
      noted (act.Leave j) outcome.Plain (taken_over (view_at c 0) (view_at c j)) in
      let gone : CoreView = left_behind (view_at c j) in
      let l = length-set c.views 0 root in
      let there = joined.atj z c so j other hj in
      let a = total_set f c.views 0 root (joined.at0 z c so j other hj) in
      let b = total_set f (set c.views 0 root) j gone (omega arith) in
      let g = ap f (get_or-set_other c.views 0 j root no_view other) in omega arith

  leave_lags : (f g : CoreView → ℕ) (j : ℕ) → j ≢ 0 → j < z.seats
      → LagsLeft f g j (view_at c 0) (view_at c j) → SumLags f g c (after z c 0 (act.Leave j))
  leave_lags f g j other hj lags =
      let a = leave_sum f j other hj in
      let b = leave_sum g j other hj in omega arith

  pub sum_lags : (f g : CoreView → ℕ) (n : ℕ) (a : Act) → Enabled z c n a
      → Lags f g (view_at c n) (moved z a (found z c n a) (view_at c n))
      → ((j : ℕ) → j < z.seats → CanLeave (view_at c 0) → CanLeave (view_at c j)
      → LagsLeft f g j (view_at c 0) (view_at c j))
      → SumLags f g c (after z c n a)
  sum_lags f g n a on lags left = ⊎_elim
      (λ (l : (j : ℕ) × (a ≡ act.Leave j)).
      let there = on.0 in
      let views = so.views in
      let leaves = subst (λ (b : Act). Enabled z c n b) l.1 on in
      let may = leaves.1 in
      let first = may.0 in
      let number = (so.seats n (omega arith)).number in
      let root : n ≡ 0 = omega arith in
      let idle = subst (λ (m : ℕ). CanLeave (view_at c m)) root may.3 in
      subst (λ (b : Act). SumLags f g c (after z c n b)) (sym l.1)
      (subst (λ (m : ℕ). SumLags f g c (after z c m (act.Leave l.0))) (sym root)
      (leave_lags f g l.0 may.1 may.2 (left l.0 may.2 idle leaves.2))))
      (λ (stays : (j : ℕ) → a ≡ act.Leave j → ⊥). plain_lags f g n a on stays lags)
      (is_leave a)

-- what is so at the start, and stays so, is so over every history
pub always_lags : (z : Shape) (ts : Terms) (f g : CoreView → ℕ) → IsShape z → AreTerms z ts
    → total f (start z ts).views ≤ total g (start z ts).views
    → ((es : List Event) (c : Core) (n : ℕ) (a : Act) → History z ts es c → Sound z c
    → Enabled z c n a → SumLags f g c (after z c n a))
    → (es : List Event) (c : Core) → History z ts es c → total f c.views ≤ total g c.views
always_lags z ts f g shape terms first steps [] c h =
    subst (λ (d : Core). total f d.views ≤ total g d.views) (sym h) first
always_lags z ts f g shape terms first steps (e ∷ es) c h =
    let so = history_sound z ts es h.0 shape terms h.1 in
    let before = always_lags z ts f g shape terms first steps es h.0 h.1 in
    let step = steps es h.0 e.seat e.act h.1 so h.2.0 in
    subst (λ (d : Core). total f d.views ≤ total g d.views) (sym h.2.1) (omega arith)
