-- What stands in the lists of a seat that is there, but for seat 0, it pushed or popped itself.
use Rattle.std.specs.Prelude.{cond, ◌==◌}
use Rattle.std.proofs.Common.{◌≡◌, ◌≢◌, ⊎_elim, ℕ, Bool, true, false, List, [], ◌∷◌, ◌++◌, refl, sym, ap, ◌∙◌}
use Rattle.std.proofs.lemmas.Bool.{cases_eq, eq-eqb, ne_eqb}
use Rattle.protocol_pairs.specs.plain_state.State.{Plain}
use Rattle.queue_law.specs.declared.view.Taken.{Taken}
use Rattle.queue_law.specs.declared.view.View.{View}
use Rattle.queue_law.specs.Views.{view_at}
use Rattle.queue_law.specs.Chain.{Ends}
use Rattle.queue_law.specs.Lists.{Kept, tagged, taken_items}
use Rattle.queue_law.specs.Law.{QueueLaw}
use Rattle.words_law.specs.Texts.{IsOwnList}

tagged_none : (n : ℕ) → tagged n [] ≡ []
unfolding tagged
tagged_none n = refl

tagged_here : (n : ℕ) (t : Taken) (ts : List Taken) → t.taker ≡ n
    → tagged n (t ∷ ts) ≡ t.item ∷ tagged n ts
unfolding tagged
tagged_here n t ts is = ap (λ b. cond b (t.item ∷ tagged n ts) (tagged n ts)) (eq-eqb t.taker n is)

-- a list in which no other seat's stands is all the seat's
all_tagged : (n : ℕ) (ts : List Taken) → ((m : ℕ) → m ≢ n → tagged m ts ≡ [])
    → tagged n ts ≡ taken_items ts
unfolding tagged
all_tagged n [] others = tagged_none n
all_tagged n (t ∷ ts) others =
    ⊎_elim
    (λ (is : t.taker ≡ n). tagged_here n t ts is
    ∙ ap (λ l. t.item ∷ l) (all_tagged n ts (λ m ne. rest m (λ e. ne (sym e ∙ is)) (others m ne))))
    (λ (ne : t.taker ≢ n).
    let some : t.item ∷ tagged t.taker ts ≡ [] = sym (tagged_here t.taker t ts refl)
    ∙ others t.taker ne in absurd cc)
    (cases_eq t.taker n)
  where
    rest : (m : ℕ) → t.taker ≢ m → tagged m (t ∷ ts) ≡ [] → tagged m ts ≡ []
    rest m ne none = sym (ap (λ b. cond b (t.item ∷ tagged m ts) (tagged m ts)) (ne_eqb t.taker m ne))
        ∙ none

pub tagged_append : (n : ℕ) (xs ys : List Taken) → tagged n (xs ++ ys) ≡ tagged n xs ++ tagged n ys
unfolding tagged
tagged_append n [] ys = refl
tagged_append n (t ∷ xs) ys = go (t.taker == n) (tagged_append n xs ys)
  where
    go : (b : Bool) → tagged n (xs ++ ys) ≡ tagged n xs ++ tagged n ys
        → cond b (t.item ∷ tagged n (xs ++ ys)) (tagged n (xs ++ ys))
        ≡ cond b (t.item ∷ tagged n xs) (tagged n xs) ++ tagged n ys
    go true rest = ap (λ l. t.item ∷ l) rest
    go false rest = rest

module _ (f : View → List Taken) (all : List Taken) (views : List View) (kept : Kept f all views)
    (n : ℕ) (other : n ≢ 0) where
  -- the others' homes are elsewhere
  elsewhere : (m : ℕ) → m ≢ n → (b : Bool) → n ≢ cond b m 0
  elsewhere m ne true e = ne (sym e)
  elsewhere m ne false e = other e

  none_other : (m : ℕ) → m ≢ n → tagged m (f (view_at views n)) ≡ []
  none_other m ne = kept.none m n (elsewhere m ne (view_at views m).here)

  kept_own : IsOwnList n (f (view_at views n))
  kept_own = all_tagged n (f (view_at views n)) none_other

  kept_root : (view_at views n).here ≡ true → tagged n (f (view_at views 0)) ≡ []
  kept_root here = kept.none n 0 (λ e. other (sym (e ∙ ap (λ b. cond b n 0) here)))

module _ (u : Ends) (p : Plain) (views : List View) (n : ℕ) (law : QueueLaw u p views)
    (other : n ≢ 0) where
  pub own_lists : IsOwnList n (view_at views n).pushed × IsOwnList n (view_at views n).popped
  own_lists =
      let o = law.3.ordered in (
        kept_own (λ (v : View). v.pushed) _ views o.pushed n other,
        kept_own (λ (v : View). v.popped) _ views o.popped n other,
      )

  pub others_lists : (m : ℕ) → m ≢ n
      → (tagged m (view_at views n).pushed ≡ []) × (tagged m (view_at views n).popped ≡ [])
  others_lists m ne =
      let o = law.3.ordered in (
        none_other (λ (v : View). v.pushed) _ views o.pushed n other m ne,
        none_other (λ (v : View). v.popped) _ views o.popped n other m ne,
      )

  pub root_lists : (view_at views n).here ≡ true
      → (tagged n (view_at views 0).pushed ≡ []) × (tagged n (view_at views 0).popped ≡ [])
  root_lists here =
      let o = law.3.ordered in (
        kept_root (λ (v : View). v.pushed) _ views o.pushed n other here,
        kept_root (λ (v : View). v.popped) _ views o.popped n other here,
      )
