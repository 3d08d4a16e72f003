-- Seat 0 has one trail for each seat that has left, so by its own view it knows when all others have.
use Rattle.std.proofs.Common.{◌≡◌, ◌≢◌, ⊎_elim, ℕ, zero, suc, ◌+◌, ◌<◌, ◌≤◌, Bool, true, false, List, [], ◌∷◌, length, get_or, set, refl, ap, sym, ◌∙◌, subst, arith, length-append}
use Rattle.std.specs.Prelude.{◌↔◌, if◌then◌else◌}
use Rattle.std.proofs.lemmas.List.{length-set, get_or-set_same, get_or-set_other}
use Rattle.std.proofs.lemmas.List.Sums.{sum_by-cons}
use Rattle.std.proofs.lemmas.Bool.{cases_eq}
use Rattle.epoch_core.specs.declared.act.EpochAct.{EpochAct}
use Rattle.epoch_core.specs.declared.act.EpochAct.TheVariants as act
use Rattle.epoch_core.specs.declared.act.EpochEvent.{EpochEvent}
use Rattle.epoch_core.specs.declared.outcome.EpochOutcome.TheVariants as outcome
use Rattle.epoch_core.specs.declared.shape.EpochShape.{EpochShape}
use Rattle.core_law.specs.core_events.declared.shape.Quota.{Quota}
use Rattle.epoch_core.specs.declared.view.EpochView.{EpochView}
use Rattle.epoch_core.specs.Counts.{total}
use Rattle.epoch_core.specs.Views.{first_views, no_view}
use Rattle.epoch_core.specs.Steps.{moved, noted}
use Rattle.epoch_core.specs.Runs.{Core, view_at, found, Enabled, after, start, taken_over, left_behind, History, IsShape, AreQuotas}
use Rattle.epoch_core.specs.Sound.{Sound}
use Rattle.epoch_core.proofs.Kit.{total_set}
use Rattle.epoch_core.proofs.Starts.{total_none}
use Rattle.epoch_core.proofs.Keeps.{history_sound}
use Rattle.epoch_rule.specs.Rule.{OthersLeft}
use Rattle.epoch_rule.proofs.Views.{changed_left, is_leave, views_plain}

-- 1 for a seat that has left
abbrev pub gone : EpochView → ℕ
gone v = if v.left then 1 else 0

-- seat 0 is there, and has one trail for each seat that has left
pub record Counted (c : Core) : Type 0 where
  pub here : (view_at c 0).left ≡ false
  pub count : total gone c.views ≡ length (view_at c 0).left_seats

gone_most : (v : EpochView) → gone v ≤ 1
gone_most v = go v.left
  where
    go : (b : Bool) → (if b then 1 else 0) ≤ 1
    go true = omega arith
    go false = omega arith

has_left : (v : EpochView) → 0 < gone v → v.left ≡ true
has_left v = go v.left
  where
    go : (b : Bool) → 0 < (if b then 1 else 0) → b ≡ true
    go true pos = refl
    go false pos = absurd (omega arith)

total_most : (vs : List EpochView) → total gone vs ≤ length vs
unfolding total
total_most [] = omega arith
total_most (v ∷ vs) =
    let a = sum_by-cons gone v vs in
    let b = gone_most v in
    let r = total_most vs in omega arith

-- where as many have left as there are, each has
each_left : (vs : List EpochView) → total gone vs ≡ length vs
    → (n : ℕ) → n < length vs → (get_or vs n no_view).left ≡ true
unfolding total
each_left [] e n h = absurd (omega arith)
each_left (v ∷ vs) e zero h =
    let a = sum_by-cons gone v vs in
    let m = total_most vs in has_left v (omega arith)
each_left (v ∷ vs) e (suc n) h =
    let a = sum_by-cons gone v vs in
    let b = gone_most v in
    let m = total_most vs in each_left vs (omega arith) n (omega arith)

all_left : (vs : List EpochView)
    → ((n : ℕ) → n < length vs → (get_or vs n no_view).left ≡ true) → total gone vs ≡ length vs
unfolding total
all_left [] left = refl
all_left (v ∷ vs) left =
    let a = sum_by-cons gone v vs in
    let b : gone v ≡ 1 = ap (λ (t : Bool). if t then 1 else 0) (left zero (omega arith)) in
    let r = all_left vs (λ n h. left (suc n) (omega arith)) in omega arith

-- the same of all seats but the first, which is there
rest_left : (vs : List EpochView) → 0 < length vs → (get_or vs 0 no_view).left ≡ false
    → ((n : ℕ) → 0 < n → n < length vs → (get_or vs n no_view).left ≡ true)
    ↔ (total gone vs + 1 ≡ length vs)
unfolding total
rest_left [] some_seat here = absurd (omega arith)
rest_left (v ∷ vs) some_seat here =
    let a = sum_by-cons gone v vs in
    let b : gone v ≡ 0 = ap (λ (t : Bool). if t then 1 else 0) here in (
      (λ left. let r = all_left vs (λ n h. left (suc n) (omega arith) (omega arith)) in
          omega arith),
      (λ e n pos h. after_first e n pos h),
    )
  where
    after_first : total gone (v ∷ vs) + 1 ≡ length (v ∷ vs) → (n : ℕ) → 0 < n
        → n < length (v ∷ vs) → (get_or (v ∷ vs) n no_view).left ≡ true
    after_first e zero pos h = absurd (omega arith)
    after_first e (suc n) pos h =
        let a = sum_by-cons gone v vs in
        let b : gone v ≡ 0 = ap (λ (t : Bool). if t then 1 else 0) here in
        each_left vs (omega arith) n (omega arith)

start_counted : (z : EpochShape) (qs : List Quota) → Counted (start z qs)
start_counted z qs = record {
  here = there qs;
  count = total_none gone z 0 qs (λ n q. refl) ∙ none qs;
}
  where
    there : (qs : List Quota)
        → (get_or (first_views z 0 qs) 0 no_view).left ≡ false
    there [] = refl
    there (q ∷ qs) = refl

    none : (qs : List Quota)
        → 0 ≡ length (get_or (first_views z 0 qs) 0 no_view).left_seats
    none [] = refl
    none (q ∷ qs) = refl

-- a seat's view is given anew, with the same trails of seats that left, and it has left as before
one_counted : (c : Core) (n : ℕ) (u : EpochView) (ws os : List ℕ) → n < length c.views
    → u.left ≡ (view_at c n).left → u.left_seats ≡ (view_at c n).left_seats → Counted c
    → Counted (record { words = ws; views = set c.views n u; opened = os })
one_counted c n u ws os hn left' trails' k = ⊎_elim
    (λ (e : n ≡ 0). record {
      here = ap (λ (v : EpochView). v.left) (first e)
          ∙ (left' ∙ (ap (λ (m : ℕ). (view_at c m).left) e ∙ k.here));
      count = same ∙ (k.count ∙ sym (ap (λ (v : EpochView). length v.left_seats) (first e)
          ∙ (ap length trails' ∙ ap (λ (m : ℕ). length (view_at c m).left_seats) e)));
    })
    (λ (ne : n ≢ 0).
    let at = get_or-set_other c.views n 0 u no_view (λ e. ne (sym e)) in record {
      here = ap (λ (v : EpochView). v.left) at ∙ k.here;
      count = same ∙ (k.count ∙ sym (ap (λ (v : EpochView). length v.left_seats) at));
    })
    (cases_eq n 0)
  where
    same : total gone (set c.views n u) ≡ total gone c.views
    same =
        let t = total_set gone c.views n u hn in
        let g : gone u ≡ gone (view_at c n) = ap (λ (b : Bool). if b then 1 else 0) left' in
        omega arith

    first : n ≡ 0 → get_or (set c.views n u) 0 no_view ≡ u
    first e = subst (λ (m : ℕ). get_or (set c.views n u) m no_view ≡ u) e
        (get_or-set_same c.views n u no_view hn)

plain_counted : (z : EpochShape) (c : Core) (n : ℕ) (a : EpochAct) → n < length c.views
    → ((j : ℕ) → a ≡ act.Leave j → ⊥) → Counted c → Counted (after z c n a)
plain_counted z c n a hn stays k =
    let w : ℕ = found z c n a in
    let s = changed_left z a w (view_at c n) in
    subst (λ (vs : List EpochView). Counted (record {
      words = (after z c n a).words;
      views = vs;
      opened = (after z c n a).opened;
    }))
    (sym (views_plain z c n a stays))
    (one_counted c n (moved z a w (view_at c n)) (after z c n a).words (after z c n a).opened hn s.left s.left_seats k)

-- a leave adds a trail, and a seat that has left
leave_counted : (z : EpochShape) (c : Core) (j : ℕ) → 0 < length c.views → j ≢ 0 → j < length c.views
    → (view_at c j).left ≡ false → Counted c → Counted (after z c 0 (act.Leave j))
leave_counted z c j h0 other hj still k =
    let l = length-set c.views 0 root' in
    let a = total_set gone c.views 0 root' h0 in
    let b = total_set gone (set c.views 0 root') j (left_behind (view_at c j)) (omega arith) in
    let g = ap gone (get_or-set_other c.views 0 j root' no_view other) in
    let f : gone (view_at c j) ≡ 0 = ap (λ (t : Bool). if t then 1 else 0) still in
    let m = length-append (view_at c 0).left_seats
    (record {
      seat = (view_at c j).seat;
      trail = (view_at c j).trail;
    } ∷ []) in
    let n = ap (λ (v : EpochView). length v.left_seats) at in
    let e = k.count in record {
      here = ap (λ (v : EpochView). v.left) at ∙ k.here;
      count = omega arith;
    }
  where
    root' : EpochView
    root' = noted (act.Leave j) outcome.Plain (taken_over (view_at c 0) (view_at c j))

    at : view_at (after z c 0 (act.Leave j)) 0 ≡ root'
    at = get_or-set_other (set c.views 0 root') j 0 (left_behind (view_at c j)) no_view
        (λ e. other (sym e))
        ∙ get_or-set_same c.views 0 root' no_view h0

step_counted : (z : EpochShape) (c : Core) (n : ℕ) (a : EpochAct) → Sound z c → Enabled z c n a → Counted c
    → Counted (after z c n a)
step_counted z c n a so on k = ⊎_elim
    (λ (l : (j : ℕ) × (a ≡ act.Leave j)). subst (λ (b : EpochAct). Counted (after z c n b)) (sym l.1)
    (leaves l.0 (subst (λ (b : EpochAct). Enabled z c n b) l.1 on)))
    (λ (stays : (j : ℕ) → a ≡ act.Leave j → ⊥). plain_counted z c n a on.0 stays k)
    (is_leave a)
  where
    leaves : (j : ℕ) → Enabled z c n (act.Leave j) → Counted (after z c n (act.Leave j))
    leaves j may =
        let sv = so.views in
        let h = may.0 in
        let number = (so.seats n (omega arith)).number in
        let first = may.1.0 in
        let hj = may.1.2 in
        let root : n ≡ 0 = omega arith in
        subst (λ (m : ℕ). Counted (after z c m (act.Leave j))) (sym root)
        (leave_counted z c j (omega arith) may.1.1 (omega arith) may.2.0.1 k)

pub history_counted : (z : EpochShape) (qs : List Quota) (es : List EpochEvent) (c : Core) → IsShape z
    → AreQuotas z qs
    → History z qs es c → Counted c
history_counted z qs [] c shape quotas h = subst Counted (sym h) (start_counted z qs)
history_counted z qs (e ∷ es) c shape quotas h = subst Counted (sym h.2.1)
    (step_counted z h.0 e.seat e.act (history_sound z qs es h.0 shape quotas h.1) h.2.0
    (history_counted z qs es h.0 shape quotas h.1))

pub others_left : (z : EpochShape) (qs : List Quota) (es : List EpochEvent) (c : Core) → IsShape z
    → AreQuotas z qs
    → History z qs es c → OthersLeft c ↔ (length (view_at c 0).left_seats + 1 ≡ z.seats)
others_left z qs es c shape quotas h =
    let k = history_counted z qs es c shape quotas h in
    let e = k.count in
    let sv = (history_sound z qs es c shape quotas h).views in
    let some_seat = shape.0 in
    let r = rest_left c.views (omega arith) k.here in (
      (λ all. let t = r.0 all in omega arith),
      (λ t. r.1 (omega arith)),
    )
