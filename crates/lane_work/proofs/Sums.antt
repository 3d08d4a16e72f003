-- Numbers of tickets, added up.
use Rattle.std.proofs.Common.{◌≡◌, ℕ, zero, suc, ◌+◌, ◌*◌, ◌<◌, ◌≤◌, List, [], ◌∷◌, ◌++◌, refl, sym, ap, ◌∙◌, arith}
use Rattle.std.specs.Prelude.{length, map, slice_index_or, sum, sum_by, take}
use Rattle.std.specs.List.{range_with_len}
use Rattle.std.proofs.lemmas.List.{length-map, take_all}
use Rattle.std.proofs.lemmas.List.FromFn.{map-range_with_len_more, sum_by-map-range_with_len_more}
use Rattle.std.proofs.lemmas.List.Sums.{sum_by-cons, sum_by_more}
use Rattle.std.proofs.lemmas.Nat.{mod-mul-add}
use Rattle.std.proofs.Math.Nat.{suc-mul}
use Rattle.cdrc_text.specs.Fold.{File}
use Rattle.lane_work.specs.declared.work.Work.{Work}
use Rattle.lane_work.specs.Work.{files_in, words_of}
use Rattle.lane_work.specs.Sizes.{texts_in}

-- two numbers of each
pub sum_of_both : {X : Type 0} (f g : X → ℕ) (xs : List X)
    → sum_by (λ x. f x + g x) xs ≡ sum_by f xs + sum_by g xs
sum_of_both f g [] = refl
sum_of_both f g (x ∷ xs) =
    let one = sum_by-cons f x xs in let other = sum_by-cons g x xs in
    let both = sum_by-cons (λ y. f y + g y) x xs in let rest = sum_of_both f g xs in
    omega arith

-- a list of numbers, and one number more
pub listed_more : (f : ℕ → ℕ) (n x : ℕ) (xs ys : List ℕ) → ys ≡ xs ++ x ∷ []
    → xs ≡ map f (range_with_len 0 n) → x ≡ f n → ys ≡ map f (range_with_len 0 (n + 1))
listed_more f n x xs ys added before is =
    added ∙ ap (λ zs. zs ++ x ∷ []) before
    ∙ ap (λ y. map f (range_with_len 0 n) ++ y ∷ []) is
    ∙ sym (map-range_with_len_more f 0 n n (omega arith))

module _ (g : File → ℕ) (work : Work) where
  -- of the first n tickets
  unfoldable pub of_tickets : ℕ → ℕ
  of_tickets n = sum_by (λ (x : ℕ). x) (map (λ t. g (words_of work t)) (range_with_len 0 n))

  pub of_none : of_tickets 0 ≡ 0
  unfolding of_tickets
  of_none = refl

  pub is_sum : (n : ℕ) → sum (map (λ t. g (words_of work t)) (range_with_len 0 n)) ≡ of_tickets n
  unfolding of_tickets
  is_sum n = refl

  pub one_more : (n : ℕ) → of_tickets (n + 1) ≡ of_tickets n + g (words_of work n)
  unfolding of_tickets
  one_more n = sum_by-map-range_with_len_more (λ (x : ℕ). x) (λ t. g (words_of work t)) 0 n n
      (omega arith)

  many : length (texts_in work) ≡ files_in work
  many = length-map work.files.items _

  at : (r k : ℕ) → k < files_in work
      → words_of work (r * files_in work + k) ≡ slice_index_or (texts_in work) k []
  at r k less =
      ap (λ j. slice_index_or (texts_in work) j []) (mod-mul-add r (files_in work) k less)

  -- of r rounds and k files more
  so_far : (r k : ℕ) → k ≤ files_in work
      → of_tickets (r * files_in work) ≡ r * sum_by g (texts_in work)
      → of_tickets (r * files_in work + k)
      ≡ r * sum_by g (texts_in work) + sum_by g (take k (texts_in work))
  so_far r zero less before =
      let e : r * files_in work + 0 ≡ r * files_in work = omega arith in
      ap of_tickets e ∙ before ∙ omega arith
  so_far r (suc k) less before =
      let n = r * files_in work + k in
      let e : r * files_in work + suc k ≡ n + 1 = omega arith in
      let l : k < length (texts_in work) = omega (arith, many, less) in
      let s : suc k ≡ k + 1 = omega arith in
      let rest = so_far r k (omega arith) before in
      let more = one_more n in
      let last = ap g (at r k (omega arith)) in
      let sums = ap (λ j. sum_by g (take j (texts_in work))) s
      ∙ sum_by_more g (texts_in work) k [] l in
      ap of_tickets e ∙ omega (arith, rest, more, last, sums)

  all_files : (r : ℕ) → of_tickets (r * files_in work) ≡ r * sum_by g (texts_in work)
      → of_tickets (r * files_in work + files_in work)
      ≡ r * sum_by g (texts_in work) + sum_by g (texts_in work)
  all_files r before =
      so_far r (files_in work) (omega arith) before
      ∙ ap (λ xs. r * sum_by g (texts_in work) + sum_by g xs)
      (take_all (files_in work) (texts_in work) (omega (arith, many)))

  -- of so many rounds
  pub of_rounds : (r : ℕ) → of_tickets (r * files_in work) ≡ r * sum_by g (texts_in work)
  of_rounds zero =
      let e : zero * files_in work ≡ 0 = omega arith in
      ap of_tickets e ∙ of_none ∙ omega arith
  of_rounds (suc r) =
      let f = files_in work in let s = sum_by g (texts_in work) in
      let e : suc r * f ≡ r * f + f = suc-mul r f in
      let h : r * s + s ≡ suc r * s = sym (suc-mul r s) in
      ap of_tickets e ∙ all_files r (of_rounds r) ∙ h

  -- of the files, once each
  pub of_files : of_tickets (files_in work) ≡ sum_by g (texts_in work)
  of_files =
      let f = files_in work in let s = sum_by g (texts_in work) in
      let e : f ≡ 1 * f = omega arith in
      ap of_tickets e ∙ of_rounds 1 ∙ omega arith

  -- each of n tickets has m at most
  pub at_most : (m : ℕ) → ((t : ℕ) → g (words_of work t) ≤ m) → (n : ℕ) → of_tickets n ≤ n * m
  at_most m few zero = let none = of_none in omega arith
  at_most m few (suc n) =
      let more = one_more n in let rest = at_most m few n in let last = few n in
      let s : suc n ≡ n + 1 = omega arith in let e = ap of_tickets s in
      let h : suc n * m ≡ n * m + m = suc-mul n m in
      omega arith
