-- Lists of items in which each item stands equally often have equally many of each word.
use Rattle.std.specs.Prelude.{cond}
use Rattle.std.specs.List.{count_by, flat_map}
use Rattle.std.specs.Str.{bytes_eq}
use Rattle.std.proofs.Common.{◌≡◌, ⊎_elim, ℕ, ◌+◌, Bool, List, [], ◌∷◌, ◌++◌, map, refl, sym, ap, arith}
use Rattle.std.proofs.lemmas.List.Sums.{sum_by-cons, sum_by-append}
use Rattle.queue_law.specs.declared.view.Item.{Item}
use Rattle.queue_law.specs.declared.view.View.{View}
use Rattle.queue_law.specs.Lists.{same_item, item_times, views_total, taken_items, pushed_times, popped_times}
use Rattle.directory_law.specs.declared.view.Rope.{Rope}
use Rattle.directory_law.specs.Views.{In}
use Rattle.words_law.specs.Texts.{PushesAre, all_popped, all_pushed, word_of_item, word_times}
use Rattle.words_law.proofs.Popped.{times_cons, times_in, times_none, times_self}

count_cons : (q : Item → Bool) (x : Item) (xs : List Item)
    → count_by q (x ∷ xs) ≡ cond (q x) 1 0 + count_by q xs
count_cons q x xs = sum_by-cons (λ (y : Item). cond (q y) 1 0) x xs

count_append : (q : Item → Bool) (xs ys : List Item)
    → count_by q (xs ++ ys) ≡ count_by q xs + count_by q ys
count_append q xs ys = sum_by-append (λ (y : Item). cond (q y) 1 0) xs ys

times_both : (x : Item) (xs ys : List Item)
    → item_times x (xs ++ ys) ≡ item_times x xs + item_times x ys
unfolding item_times
times_both x xs ys = sum_by-append (λ (y : Item). cond (same_item x y) 1 0) xs ys

-- what stands before an item of a list, and what after
split_at : (x : Item) (xs : List Item) → In x xs
    → (front : List Item) × (back : List Item) × (xs ≡ front ++ x ∷ back)
split_at x [] i = absurd i
split_at x (y ∷ xs) i = ⊎_elim
    (λ (e : x ≡ y). ([], xs, ap (λ z. z ∷ xs) (sym e)))
    (λ (j : In x xs). let s = split_at x xs j in (y ∷ s.0, s.1, ap (λ l. y ∷ l) s.2))
    i

pub same_counts : (xs ys : List Item) → ((x : Item) → item_times x xs ≡ item_times x ys)
    → (q : Item → Bool) → count_by q xs ≡ count_by q ys
same_counts [] [] same q = refl
same_counts [] (y ∷ ys) same q =
    let a = same y in let b = times_none y in let c = times_self y ys in absurd (omega arith)
same_counts (x ∷ xs) ys same q =
    let some = times_self x xs in
    let e = same x in
    let s = split_at x ys (times_in x ys (omega arith)) in
    let rest : (z : Item) → item_times z xs ≡ item_times z (s.0 ++ s.1) = λ z.
    let a = times_cons z x xs in
    let b = times_cons z x s.1 in
    let c = times_both z s.0 (x ∷ s.1) in
    let d = times_both z s.0 s.1 in
    let f = ap (item_times z) s.2 in
    let g = same z in omega arith in
    let i = same_counts xs (s.0 ++ s.1) rest q in
    let a = count_cons q x xs in
    let b = count_cons q x s.1 in
    let c = count_append q s.0 (x ∷ s.1) in
    let d = count_append q s.0 s.1 in
    let f = ap (count_by q) s.2 in omega arith

-- the items that are read off all views together
total_is : (f : View → List Item) (x : Item) (views : List View)
    → views_total (λ (v : View). item_times x (f v)) views ≡ item_times x (flat_map f views)
unfolding views_total
total_is f x [] = sym (times_none x)
total_is f x (v ∷ views) =
    let a = sum_by-cons (λ (w : View). item_times x (f w)) v views in
    let b = times_both x (f v) (flat_map f views) in
    let c = total_is f x views in omega arith

pub pushed_is : (x : Item) (views : List View)
    → pushed_times x views ≡ item_times x (all_pushed views)
unfolding all_pushed
pushed_is x views = total_is (λ (v : View). taken_items v.pushed) x views

pub popped_is : (x : Item) (views : List View)
    → popped_times x views ≡ item_times x (all_popped views)
unfolding all_popped
popped_is x views = total_is (λ (v : View). taken_items v.popped) x views

count_map : (f : Item → List ℕ) (q : List ℕ → Bool) (xs : List Item)
    → count_by q (map f xs) ≡ count_by (λ x. q (f x)) xs
count_map f q [] = refl
count_map f q (x ∷ xs) =
    let a = sum_by-cons (λ (y : List ℕ). cond (q y) 1 0) (f x) (map f xs) in
    let b = sum_by-cons (λ (y : Item). cond (q (f y)) 1 0) x xs in
    let i = count_map f q xs in omega arith

-- each word was pushed as often as it was popped and is among the rest
pub words_even : (kept : List Rope) (w : List ℕ) (views : List View) (rest : List Item)
    → PushesAre views rest
    → word_times kept w (all_pushed views) ≡ word_times kept w (all_popped views)
    + word_times kept w rest
words_even kept w views rest even =
    let q : Item → Bool = λ x. bytes_eq w (word_of_item kept x) in
    let same : (x : Item) → item_times x (all_pushed views) ≡ item_times x (all_popped views ++ rest) =
    λ x.
    let a = even x in
    let b = pushed_is x views in
    let c = popped_is x views in
    let d = times_both x (all_popped views) rest in omega arith in
    let i = same_counts (all_pushed views) (all_popped views ++ rest) same q in
    let a = count_append q (all_popped views) rest in
    let b = count_map (word_of_item kept) (bytes_eq w) (all_pushed views) in
    let c = count_map (word_of_item kept) (bytes_eq w) (all_popped views) in
    let d = count_map (word_of_item kept) (bytes_eq w) rest in omega arith

pub times_of_more : (kept : List Rope) (w : List ℕ) (xs ys : List Item)
    → word_times kept w (xs ++ ys) ≡ word_times kept w xs + word_times kept w ys
times_of_more kept w xs ys =
    let q : Item → Bool = λ x. bytes_eq w (word_of_item kept x) in
    let e = count_append q xs ys in
    let a = count_map (word_of_item kept) (bytes_eq w) (xs ++ ys) in
    let b = count_map (word_of_item kept) (bytes_eq w) xs in
    let c = count_map (word_of_item kept) (bytes_eq w) ys in omega arith

pub times_of_none : (kept : List Rope) (w : List ℕ) → word_times kept w [] ≡ 0
times_of_none kept w = refl
