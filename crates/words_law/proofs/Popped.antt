-- Each item that was popped was pushed, and as often at most.
use Rattle.std.specs.Prelude.{cond, ◌==◌, ◌&&◌}
use Rattle.std.proofs.Common.{◌≡◌, inl, inr, ⊎_elim, ℕ, suc, ◌+◌, ◌<◌, ◌≤◌, Bool, true, false, List, [], ◌∷◌, length, drop, refl, sym, ap, subst, ◌∙◌, arith}
use Rattle.std.proofs.lemmas.Bool.{cases_lt, eqb-true, eq-eqb}
use Rattle.std.proofs.lemmas.List.{get_or_past}
use Rattle.std.proofs.lemmas.List.Sums.{sum_by-cons, get_or-le-sum_by}
use Rattle.protocol_pairs.specs.plain_state.State.{Plain}
use Rattle.queue_law.specs.declared.view.Item.{Item}
use Rattle.queue_law.specs.declared.view.Taken.{Taken}
use Rattle.queue_law.specs.declared.view.View.{View}
use Rattle.queue_law.specs.Views.{first_view, view_at}
use Rattle.queue_law.specs.Chain.{Ends}
use Rattle.queue_law.specs.Lists.{same_words, same_item, item_times, views_total, sent_items, taken_items, pushed_times, popped_times}
use Rattle.queue_law.specs.Law.{QueueLaw}
use Rattle.queue_law.proofs.Gives.{all_items, times_append}
use Rattle.directory_law.specs.Views.{In}
use Rattle.words_law.specs.Law.{WasPushed, WasPopped}

-- ITEMS
and_both : (a b : Bool) → (a && b) ≡ true → (a ≡ true) × (b ≡ true)
and_both true b e = (refl, e)
and_both false b e = absurd cc

same_words_self : (xs : List ℕ) → same_words xs xs ≡ true
same_words_self [] = refl
same_words_self (x ∷ xs) = rw (eq-eqb x x refl) (same_words_self xs)

words_same : (xs ys : List ℕ) → same_words xs ys ≡ true → xs ≡ ys
words_same [] [] e = refl
words_same [] (y ∷ ys) e = absurd cc
words_same (x ∷ xs) [] e = absurd cc
words_same (x ∷ xs) (y ∷ ys) e =
    let b = and_both (x == y) (same_words xs ys) e in
    let h = eqb-true x y b.0 in
    let t = words_same xs ys b.1 in
    ap (λ z. z ∷ xs) h ∙ ap (λ l. y ∷ l) t

pub same_self : (x : Item) → same_item x x ≡ true
same_self x = rw (eq-eqb x.slot x.slot refl) (rw (eq-eqb x.life x.life refl) (same_words_self x.payload))

pub item_same : (x y : Item) → same_item x y ≡ true → x ≡ y
item_same x y e =
    let b = and_both ((x.slot == y.slot) && (x.life == y.life)) (same_words x.payload y.payload) e in
    let c = and_both (x.slot == y.slot) (x.life == y.life) b.0 in
    let s = eqb-true x.slot y.slot c.0 in
    let l = eqb-true x.life y.life c.1 in
    let p = words_same x.payload y.payload b.1 in
    λ i. record { slot = s i; life = l i; payload = p i }

-- HOW OFTEN
pub times_none : (x : Item) → item_times x [] ≡ 0
unfolding item_times
times_none x = refl

pub times_cons : (x y : Item) (ys : List Item)
    → item_times x (y ∷ ys) ≡ cond (same_item x y) 1 0 + item_times x ys
unfolding item_times
times_cons x y ys = sum_by-cons (λ (z : Item). cond (same_item x z) 1 0) y ys

pub times_self : (x : Item) (ys : List Item) → item_times x (x ∷ ys) ≡ 1 + item_times x ys
times_self x ys = times_cons x x ys ∙ ap (λ b. cond b 1 0 + item_times x ys) (same_self x)

pub in_times : (x : Item) (xs : List Item) → In x xs → 0 < item_times x xs
in_times x [] i = absurd i
in_times x (y ∷ xs) i =
    let c = times_cons x y xs in
    ⊎_elim
    (λ (e : x ≡ y).
    let s = ap (λ (z : Item). item_times x (z ∷ xs)) (sym e) ∙ times_self x xs in omega arith)
    (λ (j : In x xs). let t = in_times x xs j in omega arith)
    i

pub times_in : (x : Item) (xs : List Item) → 0 < item_times x xs → In x xs
times_in x [] some = let n = times_none x in absurd (omega arith)
times_in x (y ∷ xs) some = go (same_item x y) refl (times_in x xs)
  where
    go : (b : Bool) → same_item x y ≡ b → (0 < item_times x xs → In x xs) → In x (y ∷ xs)
    go true e rest = inl (item_same x y e)
    go false e rest =
        let c = times_cons x y xs ∙ ap (λ d. cond d 1 0 + item_times x xs) e in
        inr (rest (omega arith))

-- SUMS OVER VIEWS
total_at : (f : View → ℕ) (views : List View) (n : ℕ) → n < length views
    → f (view_at views n) ≤ views_total f views
unfolding views_total
total_at f views n low = get_or-le-sum_by f views n first_view low

-- a sum that isn't 0 has a view that isn't
some_view : (f : View → ℕ) (views : List View) → 0 < views_total f views
    → (n : ℕ) × (0 < f (view_at views n))
unfolding views_total
some_view f [] some = absurd (omega arith)
some_view f (v ∷ views) some =
    let c = sum_by-cons f v views in
    ⊎_elim
    (λ here. (0, here))
    (λ none. let r = some_view f views (omega arith) in (suc r.0, r.1))
    (cases_lt 0 (f v))

-- a view that did something is there
pub popper_there : (views : List View) (n : ℕ) (x : Item)
    → In x (taken_items (view_at views n).popped) → n < length views
popper_there views n x i = ⊎_elim
    (λ low. low)
    (λ past. absurd (subst (λ (v : View). In x (taken_items v.popped))
    (get_or_past views n first_view past) i))
    (cases_lt n (length views))

-- what was popped was pushed
pub popped_within : (u : Ends) (p : Plain) (views : List View) → QueueLaw u p views → (x : Item)
    → popped_times x views ≤ pushed_times x views
popped_within u p views law x =
    let h = law.0 in let ts = law.1 in let c = law.3.counted in
    let a = c.pushed x in
    let b = c.popped x in
    ⊎_elim
    (λ (some : 0 < length ts).
    let first = (c.order 0 some).0 in
    let all = ap (item_times x) (all_items h ts (omega arith) c.order)
    ∙ times_append x ts (sent_items (drop (length ts + 1) h)) in omega arith)
    (λ (none : length ts ≤ 0).
    let z = no_pops ts none in omega arith)
    (cases_lt 0 (length ts))
  where
    no_pops : (ts : List Taken) → length ts ≤ 0 → item_times x (taken_items ts) ≡ 0
    no_pops [] e = times_none x
    no_pops (t ∷ ts) e = absurd (omega arith)

pub popped_was_pushed : (u : Ends) (p : Plain) (views : List View) → QueueLaw u p views
    → (x : Item) → WasPopped views x → WasPushed views x
popped_was_pushed u p views law x was =
    let n = was.0 in
    let low = popper_there views n x was.1 in
    let some = in_times x (taken_items (view_at views n).popped) was.1 in
    let a = total_at (λ (v : View). item_times x (taken_items v.popped)) views n low in
    let b = popped_within u p views law x in
    let m = some_view (λ (v : View). item_times x (taken_items v.pushed)) views (omega arith) in
    (m.0, times_in x (taken_items (view_at views m.0).pushed) m.1)
