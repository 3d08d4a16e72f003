-- What the table keeps of each seat, as events come and seats are split off, and the history of a step.
use Rattle.std.proofs.Common.{◌≡◌, ℕ, zero, suc, ◌+◌, ◌<◌, ◌⊎◌, ⊎_elim, inl, inr, List, [], ◌∷◌, ◌++◌, set, length, length-set, length-append, get_or-set_same, sym, ap, ◌∙◌, subst, refl, arith}
use mathlib.Core.Option.{some, some-injective, some-ne-none}
use lib.ListN.{get_elem?}
use Rattle.std.proofs.lemmas.List.{append-nil}
use Rattle.atomic_table.proofs.Lists.{at_set}
use Rattle.sticky_count.specs.declared.view.Act.{Act}
use Rattle.sticky_count.specs.declared.view.Event.{Event}
use Rattle.sticky_count.specs.declared.view.View.{View}
use Rattle.sticky_count.specs.declared.view.Knows.{Knows}
use Rattle.sticky_count.specs.Views.{fresh, moved}
use Rattle.sticky_count.specs.History.{Enabled, event, run, view_at}
use Rattle.sticky_count.specs.Running.{InHistory, IsSeat, first, stays, split_off}

-- each of these seats is kept
abbrev pub AllKept : ℕ → ℕ → List Event → List Knows → Type 0
AllKept seats opened es ks = (n : ℕ) (k : Knows) → get_elem? ks n ≡ some k → IsSeat seats opened es n k

-- the seat n with a new view, whose step is the newest event
abbrev pub stepped : ℕ → Act → Knows → ℕ → List Event → Knows
stepped n a k w es = record k { view = moved a w k.view; past = event n a ∷ es }

own_step : (seats opened n : ℕ) (es : List Event) (a : Act) (k : Knows) (w : ℕ) → IsSeat seats opened es n k
    → IsSeat seats opened (event n a ∷ es) n (stepped n a k w es)
own_step seats opened n es a k w h = record { own = h.own; all = h.all; past = ([], refl); opens = h.opens }

other_step : (seats opened n : ℕ) (es : List Event) (e : Event) (k : Knows) → IsSeat seats opened es n k → IsSeat seats opened (e ∷ es) n k
other_step seats opened n es e k h = record {
  own = h.own;
  all = h.all;
  past = (e ∷ h.past.0, ap (λ (l : List Event). e ∷ l) h.past.1);
  opens = h.opens;
}

pub kept_step : (seats n : ℕ) (es : List Event) (a : Act) (k : Knows) (w : ℕ) (ks : List Knows)
    → AllKept seats (length ks) es ks → get_elem? ks n ≡ some k
    → AllKept seats (length (set ks n (stepped n a k w es))) (event n a ∷ es) (set ks n (stepped n a k w es))
kept_step seats n es a k w ks all at j x here =
    let k' : Knows = stepped n a k w es in
    let es' : List Event = event n a ∷ es in
    subst (λ (m : ℕ). IsSeat seats m es' j x) (sym (length-set ks n k'))
    (⊎_elim
    (λ t. subst (λ (m : ℕ). IsSeat seats (length ks) es' m x) (sym t.0)
    (subst (λ (y : Knows). IsSeat seats (length ks) es' n y) t.1 (own_step seats (length ks) n es a k w (all n k at))))
    (λ t. other_step seats (length ks) j es (event n a) x (all j x t.1))
    (at_set ks n j k' x here))

-- an element of a list with one more at its end
at_end : (ks : List Knows) (k x : Knows) (j : ℕ) → get_elem? (ks ++ k ∷ []) j ≡ some x
    → (get_elem? ks j ≡ some x) ⊎ ((j ≡ length ks) × (k ≡ x))
at_end [] k x zero e = inr (refl, some-injective k x e)
at_end [] k x (suc j) e = absurd (some-ne-none x (sym e))
at_end (y ∷ ks) k x zero e = inl e
at_end (y ∷ ks) k x (suc j) e = ⊎_elim (λ t. inl t) (λ t. inr (ap suc t.0, t.1)) (at_end ks k x j e)

module _ (seats n : ℕ) (es : List Event) (k : Knows) (ks : List Knows) (all : AllKept seats (length ks) es ks)
    (at : get_elem? ks n ≡ some k) (more : 0 < k.to_open) where
  -- the seats that were open before the split
  old_split : (j : ℕ) (x : Knows) → get_elem? (set ks n (stays k)) j ≡ some x → IsSeat seats (length ks + 1) es j x
  old_split j x here =
      let h = all n k at in
      ⊎_elim
      (λ t. subst (λ (m : ℕ). IsSeat seats (length ks + 1) es m x) (sym t.0)
      (subst (λ (y : Knows). IsSeat seats (length ks + 1) es n y) t.1
      (record { own = h.own; all = h.all; past = h.past; opens = λ z. absurd (omega arith) })))
      (λ t. let o = all j x t.1 in let other = t.0 in record {
        own = o.own;
        all = o.all;
        past = o.past;
        opens = λ z. let last = o.opens z in let own = h.opens more in absurd (other (omega arith));
      })
      (at_set ks n j (stays k) x here)

  new_split : IsSeat seats (length ks + 1) es (length ks) (split_off k)
  new_split =
      let h = all n k at in
      let own = h.opens more in
      record { own = omega (arith, h.own); all = h.all; past = (es, sym (append-nil es)); opens = λ _. refl }

  pub kept_split : AllKept seats (length (set ks n (stays k) ++ split_off k ∷ [])) es (set ks n (stays k) ++ split_off k ∷ [])
  kept_split j x here =
      let front : List Knows = set ks n (stays k) in
      let m = length-set ks n (stays k) in
      let count : length (front ++ split_off k ∷ []) ≡ length ks + 1 = length-append front (split_off k ∷ []) ∙ ap (λ (i : ℕ). i + 1) m in
      subst (λ (i : ℕ). IsSeat seats i es j x) (sym count)
      (⊎_elim
      (old_split j x)
      (λ t. subst (λ (i : ℕ). IsSeat seats (length ks + 1) es i x) (sym (t.0 ∙ m))
      (subst (λ (y : Knows). IsSeat seats (length ks + 1) es (length ks) y) t.1 new_split))
      (at_end front (split_off k) x j here))

pub kept_first : (seats : ℕ) → AllKept seats 1 [] (first seats ∷ [])
kept_first seats zero x e =
    subst (λ (y : Knows). IsSeat seats 1 [] 0 y) (some-injective (first seats) x e)
    (record { own = refl; all = refl; past = ([], refl); opens = λ _. refl })
kept_first seats (suc n) x e = absurd (some-ne-none x (sym e))

-- the history with one event more
pub step_history : (seats n : ℕ) (a : Act) (v : View) (es : List Event) → InHistory seats n es v → Enabled (run seats es) (event n a)
    → InHistory seats n (event n a ∷ es) (moved a (run seats es).word v)
step_history seats n a v es h on =
    let c = run seats es in
    let v' = moved a c.word (view_at c n) in
    record {
      possible = (h.possible, on);
      there = omega (arith, length-set c.seats n v', h.there);
      view = ap (moved a c.word) h.view ∙ sym (get_or-set_same c.seats n v' (fresh 0) h.there);
    }

-- as seat k knows it
pub known_history : (seats n : ℕ) (es past : List Event) (v : View) (seats' n' : ℕ) → seats' ≡ seats → n' ≡ n → es ≡ past
    → InHistory seats n es v → InHistory seats' n' past v
known_history seats n es past v seats' n' s e p h =
    subst (λ (i : ℕ). InHistory i n' past v) (sym s)
    (subst (λ (i : ℕ). InHistory seats i past v) (sym e)
    (subst (λ (l : List Event). InHistory seats n l v) p h))
