-- Words that differ from each other, all of them in some list: their records have no more slots than those of the list.
use Rattle.std.proofs.Common.{◌%◌, ◌≡◌, ◌⊎◌, inl, inr, ℕ, zero, suc, ◌<◌, ◌≤◌, Bool, true, List, [], ◌∷◌, ◌++◌, refl, sym, ap, subst, ◌∙◌, arith}
use Rattle.std.specs.Prelude.{cond, map, nat_lt, sum_by}
use Rattle.std.specs.List.{Contains, flat_map}
use Rattle.std.specs.Str.{bytes_eq}
use Rattle.std.proofs.lemmas.List.{length-map}
use Rattle.std.proofs.lemmas.List.Sums.{get_or-le-sum_by, sum_by-append, sum_by-cons}
use Rattle.std.proofs.lemmas.Slice.Eq.{bytes_eq-Decides}
use Rattle.cell_lanes.specs.cell_calls.cell_law.Views.{AreDistinct}
use Rattle.cell_lanes.specs.cell_calls.cell_law.directory_law.Views.{In}
use Rattle.lane_work.specs.FilePieces.{pieces_in}
use Rattle.lane_work.specs.Sizes.{texts_in}
use Rattle.lane_work.specs.Work.{IsWork, files_in, words_of, words_of_all}
use Rattle.lane_work.specs.cdrc_text.Fold.{File, holders_in, times}
use Rattle.lane_work.specs.declared.work.Work.{Work}

-- MEMBERS
module _ {A : Type 0} where
  -- a list around one of its members
  split : (x : A) (ws : List A) → In x ws → (us : List A) × (vs : List A) × (ws ≡ us ++ x ∷ vs)
  split x [] is = absurd is
  split x (y ∷ ys) (inl e) = ([], ys, ap (λ z. z ∷ ys) (sym e))
  split x (y ∷ ys) (inr is) =
      let rest = split x ys is in (y ∷ rest.0, rest.1, ap (λ zs. y ∷ zs) rest.2)

  others : (x y : A) (us vs : List A) → (x ≡ y → ⊥) → In y (us ++ x ∷ vs) → In y (us ++ vs)
  others x y [] vs apart (inl e) = absurd (apart (sym e))
  others x y [] vs apart (inr is) = is
  others x y (u ∷ us) vs apart (inl e) = inl e
  others x y (u ∷ us) vs apart (inr is) = inr (others x y us vs apart is)

  -- what members have that differ is at most what all have
  pub sum_among : (f : A → ℕ) (xs ws : List A) → AreDistinct xs → ((x : A) → In x xs → In x ws)
      → sum_by f xs ≤ sum_by f ws
  sum_among f [] ws distinct among = omega arith
  sum_among f (x ∷ xs) ws distinct among =
      let s = split x ws (among x (inl refl)) in
      let all = ap (sum_by f) s.2 ∙ sum_by-append f s.0 (x ∷ s.1) in
      let one = sum_by-cons f x s.1 in let own = sum_by-cons f x xs in
      let both = sum_by-append f s.0 s.1 in
      let rest = sum_among f xs (s.0 ++ s.1) distinct.1
      (λ y is. others x y s.0 s.1 (λ e. distinct.0 (subst (λ z. In z xs) (sym e) is))
      (subst (In y) s.2 (among y (inr is)))) in
      omega arith

  pub in_map : {B : Type 0} (g : A → B) (x : A) (xs : List A) → In x xs → In (g x) (map g xs)
  in_map g x [] is = absurd is
  in_map g x (y ∷ ys) (inl e) = inl (ap g e)
  in_map g x (y ∷ ys) (inr is) = inr (in_map g x ys is)

  pub distinct_by : {B : Type 0} (g : A → B) (xs : List A) → AreDistinct (map g xs) → AreDistinct xs
  distinct_by g [] distinct = tt
  distinct_by g (x ∷ xs) distinct =
      (λ is. distinct.0 (in_map g x xs is), distinct_by g xs distinct.1)

  either : (x : A) (xs ys : List A) → In x (xs ++ ys) → In x xs ⊎ In x ys
  either x [] ys is = inr is
  either x (z ∷ zs) ys (inl e) = inl (inl e)
  either x (z ∷ zs) ys (inr is) =
      elim (either x zs ys is) [ inl here ↦ inl (inr here) | inr there ↦ inr there ]

  of_each : {X : Type 0} (f : X → List A) (x : A) (ts : List X) → In x (flat_map f ts)
      → (t : X) × In x (f t)
  of_each f x [] is = absurd is
  of_each f x (t ∷ ts) is =
      elim (either x (f t) (flat_map f ts) is)
      [ inl here ↦ (t, here) | inr there ↦ of_each f x ts there ]

-- WORDS
pub contained : (ws : List (List ℕ)) (w : List ℕ) → Contains ws w → In w ws
contained [] w (k, less, is) = absurd (omega (arith, less))
contained (x ∷ xs) w (zero, less, is) = inl (sym is)
contained (x ∷ xs) w (suc k, less, is) = inr (contained xs w (k, omega (arith, less), is))

-- 1 where it is so
abbrev count : Bool → ℕ
count b = cond b 1 0

occurs : (w : List ℕ) (ws : List (List ℕ)) → In w ws → 0 < times w ws
occurs w [] is = absurd is
occurs w (x ∷ xs) (inl e) =
    let one = sum_by-cons (λ v. cond (bytes_eq w v) 1 0) x xs in
    let test : count (bytes_eq w x) ≡ 1 =
    ap count ((bytes_eq-Decides w x).1 e) in
    omega arith
occurs w (x ∷ xs) (inr is) =
    let one = sum_by-cons (λ v. cond (bytes_eq w v) 1 0) x xs in let rest = occurs w xs is in
    omega arith

module _ (work : Work) (is : IsWork work) where
  held : (w : List ℕ) (t : ℕ) → In w (words_of work t) → 0 < holders_in w (texts_in work)
  held w t of_file =
      let many = length-map work.files.items pieces_in in let some' = is.some in
      let one = get_or-le-sum_by (λ (f : File). count (nat_lt 0 (times w f))) (texts_in work)
      (t % files_in work) [] (omega (arith, many, some')) in
      let test : count (nat_lt 0 (times w (words_of work t))) ≡ 1 =
      ap count (above (times w (words_of work t)) (occurs w (words_of work t) of_file)) in
      omega (arith, one, test)
    where
      above : (n : ℕ) → 0 < n → nat_lt 0 n ≡ true
      above n less = grind arith

  -- a word of some tickets is a word of some file
  pub held_by : (w : List ℕ) (tickets : List ℕ) → In w (words_of_all work tickets)
      → 0 < holders_in w (texts_in work)
  unfolding words_of_all
  held_by w tickets of_all =
      let one = of_each (words_of work) w tickets of_all in held w one.0 one.1
