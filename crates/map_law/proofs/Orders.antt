-- One more entry in the order of all.
use Rattle.std.proofs.Common.{◌≡◌, ◌≢◌, ⊎_elim, ℕ, ◌<◌, Bool, true, false, List, [], ◌∷◌, ◌++◌, length, set, refl, ap, sym, ◌∙◌}
use Rattle.std.specs.Prelude.{cond, ◌==◌}
use Rattle.std.proofs.lemmas.Bool.{cases_eq, eqb-true}
use Rattle.map_trees.specs.Trees.{Pair}
use Rattle.map_trees.specs.Maps.{get, changed, replayed, Answers}
use Rattle.map_trees.specs.declared.change.Entry.{Entry}
use Rattle.map_law.specs.Views.{View, view_at}
use Rattle.map_law.specs.Orders.{tagged, home, Kept}
use Rattle.map_law.proofs.Kit.{view_here, view_else}

cons_case : (b : Bool) (x : Entry) (xs ys : List Entry) → cond b (x ∷ (xs ++ ys)) (xs ++ ys) ≡ cond b
    (x ∷ xs) xs ++ ys
cons_case true x xs ys = refl
cons_case false x xs ys = refl

pub tagged_append : (n : ℕ) (xs ys : List Entry) → tagged n (xs ++ ys) ≡ tagged n xs ++ tagged n ys
unfolding tagged
tagged_append n [] ys = refl
tagged_append n (x ∷ xs) ys = ap (λ z. cond (x.seat == n) (x ∷ z) z) (tagged_append n xs ys)
    ∙ cons_case (x.seat == n) x (tagged n xs) (tagged n ys)

pub tagged_none : (n : ℕ) → tagged n [] ≡ []
unfolding tagged
tagged_none n = refl

tagged_one : (n : ℕ) (t : Entry) → tagged n (t ∷ []) ≡ cond (t.seat == n) (t ∷ []) []
unfolding tagged
tagged_one n t = refl

pub append_nil : (l : List Entry) → l ++ [] ≡ l
append_nil [] = refl
append_nil (x ∷ l) = ap (λ z. x ∷ z) (append_nil l)

tagged_other : (n : ℕ) (xs : List Entry) (t : Entry) → t.seat ≢ n → tagged n (xs ++ t ∷ []) ≡ tagged n xs
tagged_other n xs t not = tagged_append n xs (t ∷ [])
    ∙ (ap (λ z. tagged n xs ++ z) (tagged_one n t ∙ go (t.seat == n) refl) ∙ append_nil (tagged n xs))
  where
    go : (b : Bool) → (t.seat == n) ≡ b → cond b (t ∷ []) [] ≡ []
    go true is = absurd (not (eqb-true t.seat n is))
    go false is = refl

pub home_same : (views : List View) (n : ℕ) (w : View) → n < length views → w.here ≡ (view_at views n).here → (m : ℕ)
    → home (set views n w) m ≡ home views m
home_same views n w low same m = ⊎_elim
    (λ (e : m ≡ n). ap (λ (b : Bool). cond b m 0) (ap (λ (z : ℕ). (view_at (set views n w) z).here) e
    ∙ (ap (λ (z : View). z.here) (view_here views n w low)
    ∙ (same ∙ ap (λ (z : ℕ). (view_at views z).here) (sym e)))))
    (λ ne. ap (λ (z : View). cond z.here m 0) (view_else views n m w ne)) (cases_eq m n)

module _ (all : List Entry) (views : List View) (n : ℕ) (w : View) (k : Kept all views) (low : n < length views)
    (same : w.here ≡ (view_at views n).here) where
  pub kept_same : w.entries ≡ (view_at views n).entries → Kept all (set views n w)
  kept_same e = record {
    own = λ m. ap (λ (z : ℕ). tagged m (view_at (set views n w) z).entries) (home_same views n w low same m)
        ∙ (ap (tagged m) (at (home views m)) ∙ k.own m);
    none = λ m j ne. ap (tagged m) (at j) ∙ k.none m j (λ z. ne (z ∙ sym (home_same views n w low same m)));
  }
    where
      at : (j : ℕ) → (view_at (set views n w) j).entries ≡ (view_at views j).entries
      at j = ⊎_elim
          (λ (z : j ≡ n). ap (λ (y : ℕ). (view_at (set views n w) y).entries) z
          ∙ (ap (λ (y : View). y.entries) (view_here views n w low)
          ∙ (e ∙ ap (λ (y : ℕ). (view_at views y).entries) (sym z))))
          (λ ne. ap (λ (y : View). y.entries) (view_else views n j w ne)) (cases_eq j n)

  pub kept_push : (t : Entry) → (view_at views n).here ≡ true → t.seat ≡ n
      → w.entries ≡ (view_at views n).entries ++ t ∷ [] → Kept (all ++ t ∷ []) (set views n w)
  kept_push t here tag e = record {
    own = λ m. ap (λ (z : ℕ). tagged m (view_at (set views n w) z).entries) (home_same views n w low same m)
        ∙ ⊎_elim
        (λ (is : m ≡ n). let hm : home views m ≡ n = ap (home views) is ∙ ap (λ (b : Bool). cond b n 0) here in
        ap (λ (z : ℕ). tagged m (view_at (set views n w) z).entries) hm
        ∙ (ap (λ (z : View). tagged m z.entries) (view_here views n w low)
        ∙ (ap (tagged m) e ∙ (tagged_append m (view_at views n).entries (t ∷ [])
        ∙ (ap (λ (z : ℕ). tagged m (view_at views z).entries ++ tagged m (t ∷ [])) (sym hm)
        ∙ (ap (λ z. z ++ tagged m (t ∷ [])) (k.own m) ∙ sym (tagged_append m all (t ∷ []))))))))
        (λ not. other m not (home views m) ∙ (k.own m ∙ sym (tagged_other m all t (λ z. not (sym z ∙ tag)))))
        (cases_eq m n);
    none = λ m j ne. let ne' : j ≢ home views m = λ z. ne (z ∙ sym (home_same views n w low same m)) in
        ⊎_elim
        (λ (is : m ≡ n). let hm : home views m ≡ n = ap (home views) is ∙ ap (λ (b : Bool). cond b n 0) here in
        ap (λ (z : View). tagged m z.entries) (view_else views n j w (λ z. ne' (z ∙ sym hm))) ∙ k.none m j ne')
        (λ not. other m not j ∙ k.none m j ne')
        (cases_eq m n);
  }
    where
      other : (m : ℕ) → m ≢ n → (j : ℕ) → tagged m (view_at (set views n w) j).entries ≡ tagged m
          (view_at views j).entries
      other m not j = ⊎_elim
          (λ (z : j ≡ n). ap (λ (y : ℕ). tagged m (view_at (set views n w) y).entries) z
          ∙ (ap (λ (y : View). tagged m y.entries) (view_here views n w low)
          ∙ (ap (tagged m) e ∙ (tagged_other m (view_at views n).entries t (λ y. not (sym y ∙ tag))
          ∙ ap (λ (y : ℕ). tagged m (view_at views y).entries) (sym z)))))
          (λ ne. ap (λ (y : View). tagged m y.entries) (view_else views n j w ne)) (cases_eq j n)

pub replayed_push : (m : List Pair) (es : List Entry) (e : Entry)
    → replayed m (es ++ e ∷ []) ≡ changed e.key e.change (replayed m es)
replayed_push m [] e = refl
replayed_push m (x ∷ es) e = replayed_push (changed x.key x.change m) es e

pub answers_push : (m : List Pair) (es : List Entry) (e : Entry) → Answers m es
    → e.answer ≡ get e.key (replayed m es) → Answers m (es ++ e ∷ [])
answers_push m [] e a h = (h, tt)
answers_push m (x ∷ es) e a h = (a.0, answers_push (changed x.key x.change m) es e a.1 h)
