-- What each seat pushed and popped stands in order in the lists of all seats.
use Rattle.std.proofs.Common.{◌≡◌, ◌≢◌, ⊎_elim, ℕ, ◌<◌, ◌≤◌, Bool, true, false, List, [], ◌∷◌, ◌++◌, map, drop, length, set, refl, ap, sym, ◌∙◌, subst}
use Rattle.std.specs.Prelude.{cond, ◌==◌}
use Rattle.std.proofs.lemmas.List.{drop-append-le}
use Rattle.std.proofs.lemmas.Bool.{cases_eq, eqb-true}
use Rattle.queue_law.specs.Views.{Item, Taken, View, view_at}
use Rattle.queue_law.specs.Chain.{Sent}
use Rattle.queue_law.specs.Lists.{tagged, home, Kept, sends, Ordered}
use Rattle.queue_law.proofs.Notes.{view_here, view_else}
use Rattle.queue_law.proofs.Counts.{map_push}

-- one list's items of seat n
abbrev pub only : ℕ → Taken → List Item
only n t = cond (t.taker == n) (t.item ∷ []) []

cons_case : (b : Bool) (x : Item) (xs ys : List Item) → cond b (x ∷ (xs ++ ys)) (xs ++ ys) ≡ cond b
    (x ∷ xs) xs ++ ys
cons_case true x xs ys = refl
cons_case false x xs ys = refl

pub tagged_append : (n : ℕ) (xs ys : List Taken) → tagged n (xs ++ ys) ≡ tagged n xs ++ tagged n ys
unfolding tagged
tagged_append n [] ys = refl
tagged_append n (x ∷ xs) ys = ap (λ z. cond (x.taker == n) (x.item ∷ z) z) (tagged_append n xs ys)
    ∙ cons_case (x.taker == n) x.item (tagged n xs) (tagged n ys)

pub tagged_none : (n : ℕ) → tagged n [] ≡ []
unfolding tagged
tagged_none n = refl

pub tagged_one : (n : ℕ) (t : Taken) → tagged n (t ∷ []) ≡ only n t
unfolding tagged
tagged_one n t = refl

pub tagged_other : (n : ℕ) (xs : List Taken) (t : Taken) → t.taker ≢ n
    → tagged n (xs ++ t ∷ []) ≡ tagged n xs
tagged_other n xs t not = tagged_append n xs (t ∷ [])
    ∙ (ap (λ z. tagged n xs ++ z) (tagged_one n t ∙ go (t.taker == n) refl) ∙ append_nil (tagged n xs))
  where
    append_nil : (l : List Item) → l ++ [] ≡ l
    append_nil [] = refl
    append_nil (x ∷ l) = ap (λ z. x ∷ z) (append_nil l)

    go : (b : Bool) → (t.taker == n) ≡ b → cond b (t.item ∷ []) [] ≡ []
    go true is = absurd (not (eqb-true t.taker n is))
    go false is = refl

-- the home of a seat after a write that keeps `here`
home_same : (views : List View) (n : ℕ) (w : View) → n < length views → w.here ≡ (view_at views n).here
    → (m : ℕ) → home (set views n w) m ≡ home views m
home_same views n w low same m = ⊎_elim
    (λ e. ap (λ b. cond b m 0) (ap (λ z. (view_at (set views n w) z).here) e
    ∙ (ap (λ (z : View). z.here) (view_here views n w low)
    ∙ (same ∙ ap (λ z. (view_at views z).here) (sym e)))))
    (λ ne. ap (λ (z : View). cond z.here m 0) (view_else views n m w ne)) (cases_eq m n)

module _ (f : View → List Taken) (all : List Taken) (views : List View) (n : ℕ) (w : View)
    (k : Kept f all views) (low : n < length views) (same : w.here ≡ (view_at views n).here) where
  pub kept_same : f w ≡ f (view_at views n) → Kept f all (set views n w)
  kept_same e = record {
    own = λ m. ap (λ z. tagged m (f (view_at (set views n w) z))) (home_same views n w low same m)
        ∙ (ap (tagged m) (at (home views m)) ∙ k.own m);
    none = λ m j ne. ap (tagged m) (at j)
        ∙ k.none m j (λ z. ne (z ∙ sym (home_same views n w low same m)));
  }
    where
      at : (j : ℕ) → f (view_at (set views n w) j) ≡ f (view_at views j)
      at j = ⊎_elim (λ z. ap (λ y. f (view_at (set views n w) y)) z
          ∙ (ap f (view_here views n w low) ∙ (e ∙ ap (λ y. f (view_at views y)) (sym z))))
          (λ ne. ap f (view_else views n j w ne)) (cases_eq j n)

  pub kept_push : (t : Taken) → (view_at views n).here ≡ true → t.taker ≡ n
      → f w ≡ f (view_at views n) ++ t ∷ [] → Kept f (all ++ t ∷ []) (set views n w)
  kept_push t here tag e = record {
    own = λ m. ap (λ z. tagged m (f (view_at (set views n w) z))) (home_same views n w low same m)
        ∙ ⊎_elim
        (λ is. let hm : home views m ≡ n = ap (home views) is ∙ ap (λ b. cond b n 0) here in
        ap (λ z. tagged m (f (view_at (set views n w) z))) hm
        ∙ (ap (λ z. tagged m (f z)) (view_here views n w low)
        ∙ (ap (tagged m) e ∙ (tagged_append m (f (view_at views n)) (t ∷ [])
        ∙ (ap (λ z. tagged m (f (view_at views z)) ++ tagged m (t ∷ [])) (sym hm)
        ∙ (ap (λ z. z ++ tagged m (t ∷ [])) (k.own m) ∙ sym (tagged_append m all (t ∷ []))))))))
        (λ not. other m not (home views m)
        ∙ (k.own m ∙ sym (tagged_other m all t (λ z. not (sym z ∙ tag)))))
        (cases_eq m n);
    none = λ m j ne. let ne' : j ≢ home views m = λ z. ne (z ∙ sym (home_same views n w low same m)) in
        ⊎_elim
        (λ is. let hm : home views m ≡ n = ap (home views) is ∙ ap (λ b. cond b n 0) here in
        ap (λ z. tagged m (f z)) (view_else views n j w (λ z. ne' (z ∙ sym hm))) ∙ k.none m j ne')
        (λ not. other m not j ∙ k.none m j ne')
        (cases_eq m n);
  }
    where
      other : (m : ℕ) → m ≢ n → (j : ℕ) → tagged m (f (view_at (set views n w) j)) ≡ tagged m
          (f (view_at views j))
      other m not j = ⊎_elim
          (λ z. ap (λ y. tagged m (f (view_at (set views n w) y))) z
          ∙ (ap (λ y. tagged m (f y)) (view_here views n w low)
          ∙ (ap (tagged m) e ∙ (tagged_other m (f (view_at views n)) t (λ y. not (sym y ∙ tag))
          ∙ ap (λ y. tagged m (f (view_at views y))) (sym z)))))
          (λ ne. ap (λ z. tagged m (f z)) (view_else views n j w ne)) (cases_eq j n)

pub sends_push : (h : List Sent) (e : Sent) → 1 ≤ length h
    → sends (h ++ e ∷ []) ≡ sends h ++ record { item = e.item; taker = e.sender } ∷ []
sends_push h e le = ap (map (λ (z : Sent). record { item = z.item; taker = z.sender }))
    (drop-append-le 1 h (e ∷ []) le) ∙ map_push (λ (z : Sent). record { item = z.item; taker = z.sender })
    (drop 1 h) e

pub ordered_push : (h : List Sent) (ts : List Taken) (views : List View) (n : ℕ) (w : View) (e : Sent)
    (m : ℕ) → Ordered h ts views → n < length views → 1 ≤ length h → (view_at views n).here ≡ true
    → w.here ≡ true → m ≡ n → e.sender ≡ m
    → w.pushed ≡ (view_at views n).pushed ++ record { item = e.item; taker = m } ∷ []
    → w.popped ≡ (view_at views n).popped → Ordered (h ++ e ∷ []) ts (set views n w)
ordered_push h ts views n w e m o low le here still tag by ups pops = record {
  pushed = subst (λ l. Kept (λ v. v.pushed) l (set views n w))
      (sym (sends_push h e le ∙ ap (λ z. sends h ++ record { item = e.item; taker = z } ∷ []) by))
      (kept_push (λ v. v.pushed) (sends h) views n w o.pushed low (still ∙ sym here)
      (record { item = e.item; taker = m }) here tag ups);
  popped = kept_same (λ v. v.popped) ts views n w o.popped low (still ∙ sym here) pops;
}

pub ordered_pop : (h : List Sent) (ts : List Taken) (views : List View) (n : ℕ) (w : View) (t : Taken)
    → Ordered h ts views → n < length views → (view_at views n).here ≡ true → w.here ≡ true → t.taker ≡ n
    → w.popped ≡ (view_at views n).popped ++ t ∷ [] → w.pushed ≡ (view_at views n).pushed
    → Ordered h (ts ++ t ∷ []) (set views n w)
ordered_pop h ts views n w t o low here still tag pops ups = record {
  pushed = kept_same (λ v. v.pushed) (sends h) views n w o.pushed low (still ∙ sym here) ups;
  popped = kept_push (λ v. v.popped) ts views n w o.popped low (still ∙ sym here) t here tag pops;
}

pub ordered_same : (h : List Sent) (ts : List Taken) (views : List View) (n : ℕ) (w : View)
    → Ordered h ts views → n < length views → w.here ≡ (view_at views n).here
    → w.popped ≡ (view_at views n).popped → w.pushed ≡ (view_at views n).pushed
    → Ordered h ts (set views n w)
ordered_same h ts views n w o low same pops ups =
    record {
      pushed = kept_same (λ v. v.pushed) (sends h) views n w o.pushed low same ups;
      popped = kept_same (λ v. v.popped) ts views n w o.popped low same pops;
    }
