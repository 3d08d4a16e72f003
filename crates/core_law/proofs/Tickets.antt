-- A seat that draws a ticket keeps the invariant.
use Rattle.std.proofs.Common.{◌≡◌, ⊎_elim, ℕ, ◌+◌, ◌<◌, ◌≤◌, List, [], ◌∷◌, ◌++◌, set, refl, ap, sym, ◌∙◌, arith}
use Rattle.std.specs.Prelude.{slice_index, nat_lt, ◌==◌, cond, if◌then◌else◌}
use Rattle.std.proofs.lemmas.List.{get_or-set_same, get_or-set_other}
use Rattle.std.proofs.lemmas.List.Sums.{sum_by_push}
use Rattle.std.proofs.lemmas.Bool.Decides.{nat_tests}
use Rattle.core_events.specs.plain_state.declared.slot.Kind.TheVariants.{Disposal}
use Rattle.core_events.specs.declared.shape.Shape.{Shape}
use Rattle.core_events.specs.declared.view.CoreView.{CoreView}
use Rattle.core_events.specs.declared.view.Move.{Move}
use Rattle.core_events.specs.Words.{strong_at, bits_at, bit_in, ticket_at}
use Rattle.core_events.specs.Views.{granted}
use Rattle.core_events.specs.Steps.{plus_one, IsIdle, HasAdd}
use Rattle.core_events.specs.Runs.{Core, view_at}
use Rattle.core_events.specs.Counts.{total, ticket_times, number_times, is_live_word}
use Rattle.core_law.specs.Sound.{Sound, covering}
use Rattle.core_law.proofs.Kit.{total_set}
use Rattle.core_law.proofs.Writes.{past_off}
use Rattle.core_law.proofs.Guards.{guards_same}
use Rattle.core_law.proofs.Put.{put, at_seat, adds_fit, law_alike}
use Rattle.core_law.proofs.Steady.{steady_put}
use Rattle.core_law.proofs.Wrote.{wrote_off}

-- one number more in a list
number_push : (t w : ℕ) (ts : List ℕ) → number_times t (ts ++ w ∷ []) ≡ number_times t ts
    + (if w == t then 1 else 0)
unfolding number_times
number_push t w ts = sum_by_push (λ (x : ℕ). cond (x == t) 1 0) ts w

-- the numbers below w and w itself are those below w + 1
one_more : (t w : ℕ) → (if nat_lt t w then 1 else 0) + (if w == t then 1 else 0)
    ≡ (if nat_lt t (w + 1) then 1 else 0)
one_more t w = grind (arith, nat_tests)

-- a ticket more grants no fewer makes
granted_push : (grants ts : List ℕ) (w : ℕ) → granted grants ts ≤ granted grants (ts ++ w ∷ [])
granted_push grants ts w =
    let a = sum_by_push (λ (t : ℕ). slice_index grants t) ts w in omega arith

module _ (z : Shape) (c : Core) (n : ℕ) (so : Sound z c) (hn : n < z.seats) where
  abbrev v : CoreView
  v = view_at c n

  w : ℕ
  w = slice_index c.words (ticket_at z)

  pub ticket_step : (t : List Move) → IsIdle v → HasAdd v
      → Sound z (put c n (record v {
        adds = v.adds + 1;
        tickets = v.tickets ++ slice_index c.words (ticket_at z) ∷ [];
        trail = t;
      }) (ticket_at z) (plus_one (slice_index c.words (ticket_at z))))
  ticket_step t idle quota =
      let drawn : ℕ = slice_index c.words (ticket_at z) in
      let u : CoreView = record v { adds = v.adds + 1; tickets = v.tickets ++ drawn ∷ []; trail = t } in
      let law = so.seats n hn in
      let h = at_seat z c n so hn in
      let off = past_off z (ticket_at z) (omega arith) in
      let len = so.words in
      let fit = adds_fit z c so in
      let few = so.tickets.few in
      let next : plus_one drawn ≡ drawn + 1 = omega arith in
      let is : slice_index (set c.words (ticket_at z) (plus_one drawn)) (ticket_at z) ≡ plus_one drawn =
      get_or-set_same c.words (ticket_at z) (plus_one drawn) 0 (omega arith) in
      steady_put z c n u (ticket_at z) (plus_one drawn) so hn
      (record {
        places = off.0;
        notes = off.1;
        fits = omega arith;
        spare = λ x a b. ap (bit_in x)
            (get_or-set_other c.words (ticket_at z) (bits_at z x) (plus_one drawn) 0 (omega arith));
      })
      (record {
        number = law.number;
        same_shape = law.same_shape;
        quota = law.quota;
        adds = omega arith;
        makes = λ l.
            let g = granted_push v.grants v.tickets drawn in let m = law.makes l in omega arith;
        can_start = λ s e. ⊎_elim (λ f. absurd (cc (idle.0, f))) (λ f. absurd (cc (idle.0, f))) e;
        four = law.four;
        scans = law.scans;
        reads = law.reads;
        owes_nothing = law.owes_nothing;
        ripe = law.ripe;
        kinds = law.kinds;
        range = law.range;
        gone = λ e. absurd (cc (idle.1, e));
      })
      (λ x hx. law_alike z c n u (set c.words (ticket_at z) (plus_one drawn)) x so hn (omega arith)
      (omega arith)
      (wrote_off z c.words (ticket_at z) (plus_one drawn) x off.0 hx (omega arith) (omega arith)
      (omega arith)) hx)
      (assumption)
      (record {
        each = λ t'.
            let s = total_set (ticket_times t') c.views n u h in
            let p = number_push t' drawn v.tickets in
            let m = one_more t' drawn in
            let e = so.tickets.each t' in
            let l : total (ticket_times t') (set c.views n u)
            ≡ (if nat_lt t' (drawn + 1) then 1 else 0) = omega arith in
            l ∙ ap (λ (k : ℕ). if nat_lt t' k then 1 else 0) (sym (is ∙ next));
        few =
            let a = total_set (λ (x : CoreView). x.adds) c.views n u h in
            let i = is in omega arith;
      })
      (λ x. omega arith)
      (λ a x hx unripe.
      let g = guards_same a Disposal x v u refl refl refl in
      let e : covering Disposal z (set c.words (ticket_at z) (plus_one drawn)) x
      ≡ covering Disposal z c.words x =
      ap (λ (i : ℕ). if is_live_word i then 1 else 0)
      (get_or-set_other c.words (ticket_at z) (strong_at z x) (plus_one drawn) 0 (omega arith)) in
      ((λ pos. omega arith), (λ pos. omega arith)))
      (omega arith)
