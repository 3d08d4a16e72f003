-- Seats that have left have no ticket, so the tickets of all seats are those that seat 0 tells of.
use Rattle.std.proofs.Common.{◌≡◌, ◌≢◌, ⊎_elim, ℕ, zero, suc, ◌+◌, ◌<◌, true, cond, List, [], ◌∷◌, ◌++◌, length, get_or, set, refl, ap, sym, ◌∙◌, subst, arith}
use Rattle.std.specs.Prelude.{◌==◌, map}
use Rattle.std.specs.List.{sum_by}
use Rattle.std.proofs.lemmas.Bool.{cases_eq}
use Rattle.std.proofs.lemmas.Bool.Decides.{nat_tests}
use Rattle.std.proofs.lemmas.List.{length-set, get_or-set_other, get_or-set_same}
use Rattle.std.proofs.lemmas.List.Sums.{sum_by-cons}
use Rattle.domain_audit.specs.core_events.declared.act.Act.{Act}
use Rattle.domain_audit.specs.core_events.declared.act.Act.TheVariants as act
use Rattle.domain_audit.specs.core_events.declared.act.Event.{Event}
use Rattle.domain_audit.specs.core_events.declared.outcome.Outcome.TheVariants as outcome
use Rattle.domain_audit.specs.core_events.declared.shape.Quota.{Quota}
use Rattle.domain_audit.specs.core_events.declared.shape.Shape.{Shape}
use Rattle.domain_audit.specs.core_events.declared.view.CoreView.{CoreView}
use Rattle.domain_audit.specs.core_events.declared.view.LeftSeat.{LeftSeat}
use Rattle.domain_audit.specs.core_events.Counts.{number_times, ticket_times, tickets_drawn, total}
use Rattle.domain_audit.specs.core_events.Runs.{AreTerms, Core, Enabled, History, IsShape, after, found, left_behind, taken_over, view_at}
use Rattle.domain_audit.specs.core_events.Steps.{May, moved, noted}
use Rattle.domain_audit.specs.core_events.Views.{Terms, first_views, no_view}
use Rattle.domain_audit.specs.core_law.Sound.{Sound}
use Rattle.domain_audit.proofs.Below.core_law_Always.{history_sound, is_leave}
use Rattle.domain_audit.proofs.Below.core_law_Trails.{changed_trail, views_plain}
use Rattle.domain_audit.proofs.Below.core_law_Bridge.{total_zero}
use Rattle.domain_audit.proofs.Below.claim_law_Going.{drawn, grows}
use Rattle.domain_audit.specs.domain_rule.Rule.{OthersLeft}
use Rattle.ticket_shares.specs.Tickets.{DrewOnce, together}
use Rattle.ticket_shares.specs.Tickets as shares

-- a seat has taken over nothing, and has no ticket where it has left
pub record HasNone (v : CoreView) : Type 0 where
  pub taken : v.left_seats ≡ []
  pub gone : v.left ≡ true → v.tickets ≡ []

-- this is so of every seat but seat 0
abbrev pub OthersHaveNone : Core → Type 0
OthersHaveNone c = (n : ℕ) → 0 < n → n < length c.views → HasNone (view_at c n)

first_none : (z : Shape) (m : ℕ) (qs : List Quota) (grants : List ℕ) (n : ℕ)
    → n < length (first_views z m qs grants) → HasNone (get_or (first_views z m qs grants) n no_view)
first_none z m [] grants n h = absurd (omega arith)
first_none z m (q ∷ qs) grants zero h =
    record { taken = refl; gone = λ left. absurd (cc (left)) }
first_none z m (q ∷ qs) grants (suc n) h = first_none z (m + 1) qs grants n (omega (arith, h))

-- only a seat that is there draws a ticket
draws_none : (z : Shape) (a : Act) (w : ℕ) (v : CoreView) → May z a v → v.left ≡ true
    → drawn a w ≡ []
draws_none z act.Ticket w v may left = absurd (cc (may.0.1, left))
draws_none z a w v may left = refl

moved_none : (z : Shape) (a : Act) (w : ℕ) (v : CoreView) → May z a v → HasNone v
    → HasNone (moved z a w v)
moved_none z a w v may none =
    let same = changed_trail z a w v in
    let more = grows z a w v in record {
      taken = same.left_seats ∙ none.taken;
      gone = λ left.
          let was = sym same.left ∙ left in
          more.tickets ∙ (λ i. none.gone was i ++ draws_none z a w v may was i);
    }

module _ (z : Shape) (c : Core) (n : ℕ) (a : Act) (on : Enabled z c n a) (k : OthersHaveNone c) where
  plain_none : ((j : ℕ) → a ≡ act.Leave j → ⊥) → OthersHaveNone (after z c n a)
  plain_none stays m pos inside =
      let u = moved z a (found z c n a) (view_at c n) in
      let views = views_plain z c n a stays in
      let long = ap length views ∙ length-set c.views n u in
      subst HasNone (sym (ap (λ (vs : List CoreView). get_or vs m no_view) views))
      (⊎_elim
      (λ (same : m ≡ n).
      subst HasNone
      (sym (ap (λ (i : ℕ). get_or (set c.views n u) i no_view) same
      ∙ get_or-set_same c.views n u no_view on.0))
      (moved_none z a (found z c n a) (view_at c n) on.1
      (subst (λ (i : ℕ). HasNone (view_at c i)) same (k m pos (omega (arith, inside, long))))))
      (λ (other : m ≢ n).
      subst HasNone (sym (get_or-set_other c.views n m u no_view other))
      (k m pos (omega (arith, inside, long))))
      (cases_eq m n))

leave_none : (z : Shape) (c : Core) (j : ℕ) → j ≢ 0 → j < length c.views → OthersHaveNone c
    → OthersHaveNone (after z c 0 (act.Leave j))
leave_none z c j other hj k m pos inside = ⊎_elim
    (λ (same : m ≡ j).
    subst HasNone
    (sym (ap (λ (i : ℕ). get_or views i no_view) same
    ∙ get_or-set_same (set c.views 0 root) j (left_behind (view_at c j)) no_view
    (omega (arith, hj, length-set c.views 0 root))))
    (record { taken = (k j (omega (arith, other)) hj).taken; gone = λ left. refl }))
    (λ (not_j : m ≢ j).
    subst HasNone
    (sym (get_or-set_other (set c.views 0 root) j m (left_behind (view_at c j)) no_view not_j
    ∙ get_or-set_other c.views 0 m root no_view (λ e. absurd (omega (arith, pos, e)))))
    (k m pos (omega (
      arith,
      inside,
      length-set (set c.views 0 root) j (left_behind (view_at c j)),
      length-set c.views 0 root,
    ))))
    (cases_eq m j)
  where
    root : CoreView
    root = noted (act.Leave j) outcome.Plain (taken_over (view_at c 0) (view_at c j))

    views : List CoreView
    views = set (set c.views 0 root) j (left_behind (view_at c j))

pub step_none : (z : Shape) (c : Core) (n : ℕ) (a : Act) → Sound z c → Enabled z c n a
    → OthersHaveNone c → OthersHaveNone (after z c n a)
step_none z c n a so on k = ⊎_elim
    (λ (l : (j : ℕ) × (a ≡ act.Leave j)).
    subst (λ (b : Act). OthersHaveNone (after z c n b)) (sym l.1)
    (leaves l.0 (subst (λ (b : Act). Enabled z c n b) l.1 on)))
    (λ (stays : (j : ℕ) → a ≡ act.Leave j → ⊥). plain_none z c n a on k stays)
    (is_leave a)
  where
    leaves : (j : ℕ) → Enabled z c n (act.Leave j) → OthersHaveNone (after z c n (act.Leave j))
    leaves j may =
        let views = so.views in
        let inside = may.0 in
        let number = (so.seats n (omega (arith, views, inside))).number in
        let root : n ≡ 0 = omega (arith, number, may.1.0) in
        subst (λ (m : ℕ). OthersHaveNone (after z c m (act.Leave j))) (sym root)
        (leave_none z c j may.1.1 (omega (arith, views, may.1.2)) k)

pub history_none : (z : Shape) (ts : Terms) (es : List Event) (c : Core) → IsShape z
    → AreTerms z ts → History z ts es c → OthersHaveNone c
history_none z ts [] c shape terms h =
    subst OthersHaveNone (sym h)
    (λ n pos inside. first_none z 0 ts.quotas ts.grants n inside)
history_none z ts (e ∷ es) c shape terms h =
    subst OthersHaveNone (sym h.2.1)
    (step_none z h.0 e.seat e.act (history_sound z ts es h.0 shape terms h.1) h.2.0
    (history_none z ts es h.0 shape terms h.1))

total_first : (f : CoreView → ℕ) (vs : List CoreView) → 0 < length vs
    → ((n : ℕ) → 0 < n → n < length vs → f (get_or vs n no_view) ≡ 0)
    → total f vs ≡ f (get_or vs 0 no_view)
unfolding total
total_first f [] some none = absurd (omega arith)
total_first f (v ∷ vs) some none =
    let sum = sum_by-cons f v vs in
    let rest = total_zero f vs (λ n h. none (suc n) (omega arith) (omega (arith, h))) in
    omega (arith, sum, rest)

same_test : (t x : ℕ) → cond {A = ℕ} (t == x) 1 0 ≡ cond (x == t) 1 0
same_test t x = grind (arith, nat_tests)

times_more : (t : ℕ) (xs ys : List ℕ)
    → shares.ticket_times t (xs ++ ys) ≡ number_times t xs + shares.ticket_times t ys
unfolding number_times
times_more t [] ys = omega arith
times_more t (x ∷ xs) ys =
    let rest = times_more t xs ys in
    let one = same_test t x in
    let all = sum_by-cons (λ (u : ℕ). cond (t == u) 1 0) x (xs ++ ys) in
    let first = sum_by-cons (λ (u : ℕ). cond (u == t) 1 0) x xs in
    omega (arith, rest, one, all, first)

no_times : (t : ℕ) → number_times t [] ≡ 0
unfolding number_times
no_times t = refl

-- the tickets that are told of seats that left
told_times : (t : ℕ) (ls : List LeftSeat)
    → shares.ticket_times t (together (map (λ (l : LeftSeat). l.tickets) ls))
    ≡ sum_by (λ (l : LeftSeat). number_times t l.tickets) ls
told_times t [] = refl
told_times t (l ∷ ls) =
    times_more t l.tickets (together (map (λ (x : LeftSeat). x.tickets) ls))
    ∙ ap (λ n. number_times t l.tickets + n) (told_times t ls)
    ∙ sym (sum_by-cons (λ (x : LeftSeat). number_times t x.tickets) l ls)

module _ (z : Shape) (c : Core) (so : Sound z c) (none : OthersHaveNone c) (left : OthersLeft c)
    (drew : (view_at c 0).tickets ≡ []) where
  pub drew_once : DrewOnce (map (λ (l : LeftSeat). l.tickets) (view_at c 0).left_seats)
      (tickets_drawn z c)
  drew_once t =
      told_times t (view_at c 0).left_seats
      ∙ own ∙ sym (total_first (ticket_times t) c.views (omega (arith, so.views, so.shape.0)) others)
      ∙ so.tickets.each t
    where
      own : sum_by (λ (l : LeftSeat). number_times t l.tickets) (view_at c 0).left_seats
          ≡ ticket_times t (view_at c 0)
      own =
          let mine = ap (number_times t) drew ∙ no_times t in
          omega (arith, mine)

      others : (n : ℕ) → 0 < n → n < length c.views → ticket_times t (view_at c n) ≡ 0
      others n pos inside =
          let has = none n pos inside in
          (λ i. number_times t (has.gone (left n pos inside) i)
          + sum_by (λ (l : LeftSeat). number_times t l.tickets) (has.taken i))
          ∙ ap (λ m. m + 0) (no_times t)
