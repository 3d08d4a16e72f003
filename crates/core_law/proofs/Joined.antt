-- Where seat j leaves to seat 0: what the lists of the two name together, and who is who in the new views.
use Rattle.std.proofs.Common.{◌≡◌, ◌≢◌, ⊎_elim, ℕ, ◌+◌, ◌<◌, List, [], ◌++◌, length, get_or, set, ap, sym, ◌∙◌, subst, arith}
use Rattle.std.proofs.lemmas.List.{length-set, get_or-set_same, get_or-set_other}
use Rattle.std.proofs.lemmas.Bool.{cases_eq}
use Rattle.core_events.specs.plain_state.declared.slot.Kind.{Kind}
use Rattle.core_events.specs.plain_state.declared.slot.SlotId.{SlotId}
use Rattle.core_events.specs.plain_state.Lists.{times, entry_times}
use Rattle.core_events.specs.declared.act.Act.TheVariants as act
use Rattle.core_events.specs.declared.outcome.Outcome.TheVariants as outcome
use Rattle.core_events.specs.declared.shape.Shape.{Shape}
use Rattle.core_events.specs.declared.view.CoreView.{CoreView}
use Rattle.core_events.specs.Views.{no_view}
use Rattle.core_events.specs.Steps.{noted}
use Rattle.core_events.specs.Runs.{Core, view_at, taken_over, left_behind}
use Rattle.core_events.specs.Counts.{total}
use Rattle.core_law.specs.Sound.{Sound}
use Rattle.core_law.proofs.Kit.{times_none, times_append, entry_none, entry_append, total_set}
use Rattle.core_law.proofs.Put.{at_seat}

-- two seats' views are given anew
pub total_two : (f : CoreView → ℕ) (vs : List CoreView) (j : ℕ) (v u : CoreView) → 0 < length vs
    → j < length vs → j ≢ 0
    → f v + f u ≡ f (get_or vs 0 no_view) + f (get_or vs j no_view) → total f (set (set vs 0 v) j u)
    ≡ total f vs
total_two f vs j v u hn hj ne e =
    let l = length-set vs 0 v in
    let a = total_set f vs 0 v hn in
    let b = total_set f (set vs 0 v) j u (omega arith) in
    let g = ap f (get_or-set_other vs 0 j v no_view ne) in omega arith

module _ (root v : CoreView) where
  -- what the lists of the two name together stays where seat 0 takes them over
  pub record Parts (s : SlotId) : Type 0 where
    pub owned : times s (root.owned ++ v.owned) ≡ times s root.owned + times s v.owned
    pub weaks : times s (root.weaks ++ v.weaks) ≡ times s root.weaks + times s v.weaks
    pub dying : times s (root.dying ++ v.dying) ≡ times s root.dying + times s v.dying
    pub ripe : times s (root.ripe ++ v.ripe) ≡ times s root.ripe + times s v.ripe
    pub made : times s (root.made ++ v.made) ≡ times s root.made + times s v.made
    pub retired :
        (k : Kind)
        → entry_times k s (root.retired ++ v.retired)
        ≡ entry_times k s root.retired + entry_times k s v.retired
    pub none : times s [] ≡ 0
    pub no_entry : (k : Kind) → entry_times k s [] ≡ 0

  pub parts : (s : SlotId) → Parts s
  parts s = record {
    owned = times_append s root.owned v.owned;
    weaks = times_append s root.weaks v.weaks;
    dying = times_append s root.dying v.dying;
    ripe = times_append s root.ripe v.ripe;
    made = times_append s root.made v.made;
    retired = λ k. entry_append k s root.retired v.retired;
    none = times_none s;
    no_entry = λ k. entry_none k s;
  }

module _ (z : Shape) (c : Core) (so : Sound z c) (j : ℕ) (other : j ≢ 0) (hj : j < z.seats) where
  abbrev pub joined : CoreView
  joined = noted (act.Leave j) outcome.Plain (taken_over (view_at c 0) (view_at c j))

  abbrev pub gone : CoreView
  gone = left_behind (view_at c j)

  abbrev pub joined_views : List CoreView
  joined_views = set (set c.views 0 (noted (act.Leave j) outcome.Plain
      (taken_over (view_at c 0) (view_at c j)))) j (left_behind (view_at c j))

  pub at0 : 0 < length c.views
  at0 = let s = so.shape.0 in at_seat z c 0 so (omega arith)

  pub atj : j < length c.views
  atj = at_seat z c j so hj

  pub joined_length : length joined_views ≡ length c.views
  joined_length = length-set (set c.views 0 joined) j gone ∙ length-set c.views 0 joined

  pub two : (f : CoreView → ℕ) → f joined + f gone ≡ f (view_at c 0) + f (view_at c j)
      → total f joined_views ≡ total f c.views
  two f e = total_two f c.views j joined gone at0 atj other e

  pub is_j : get_or joined_views j no_view ≡ gone
  is_j = get_or-set_same (set c.views 0 joined) j gone no_view
      (let l = length-set c.views 0 joined in let a = atj in omega arith)

  pub is_0 : get_or joined_views 0 no_view ≡ joined
  is_0 = get_or-set_other (set c.views 0 joined) j 0 gone no_view (λ e. other (sym e))
      ∙ get_or-set_same c.views 0 joined no_view at0

  pub is_m : (m : ℕ) → m ≢ 0 → m ≢ j → get_or joined_views m no_view ≡ view_at c m
  is_m m a b = get_or-set_other (set c.views 0 joined) j m gone no_view b
      ∙ get_or-set_other c.views 0 m joined no_view a

  -- a seat of the new state is seat 0, or j, or as before
  pub by_seat : (P : ℕ → CoreView → Type 0) → P 0 joined → P j gone
      → ((m : ℕ) → m ≢ 0 → m ≢ j → P m (view_at c m))
      → (m : ℕ) → P m (get_or joined_views m no_view)
  by_seat P p0 pj pm m = ⊎_elim
      (λ (e : m ≡ 0). subst (λ (k : ℕ). P k (get_or joined_views k no_view)) (sym e)
      (subst (P 0) (sym is_0) p0))
      (λ (a : m ≢ 0). ⊎_elim
      (λ (e : m ≡ j). subst (λ (k : ℕ). P k (get_or joined_views k no_view)) (sym e)
      (subst (P j) (sym is_j) pj))
      (λ (b : m ≢ j). subst (P m) (sym (is_m m a b)) (pm m a b))
      (cases_eq m j))
      (cases_eq m 0)
