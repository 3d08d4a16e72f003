-- What all seats took, and what all of them counted, add up.
use Rattle.std.specs.Prelude.{cond, ◌==◌}
use Rattle.std.specs.List.{flat_map, sum_by}
use Rattle.std.specs.Str.{bytes_eq}
use Rattle.std.proofs.Common.{◌≡◌, ◌≢◌, ⊎_elim, ℕ, zero, suc, ◌+◌, ◌*◌, ◌<◌, ◌≤◌, Bool, true, false, List, [], ◌∷◌, ◌++◌, refl, ap, ◌∙◌, arith}
use Rattle.std.proofs.lemmas.Bool.{cases_eq, eq-eqb, ne_eqb}
use Rattle.std.proofs.lemmas.List.Sums.{sum_by-append, sum_by-cons}
use Rattle.cdrc_text.specs.Fold.{File, occurrences_in, times}
use Rattle.words_law.specs.Fold.{added, again, gathered, taken_by, taken_pieces}

times_append : (w : List ℕ) (xs ys : List (List ℕ)) → times w (xs ++ ys) ≡ times w xs + times w ys
times_append w xs ys = sum_by-append (λ (x : List ℕ). cond (bytes_eq w x) 1 0) xs ys

times_again : (w : List ℕ) (n : ℕ) (xs : List (List ℕ)) → times w (again n xs) ≡ n * times w xs
unfolding again
times_again w zero xs = omega arith
times_again w (suc n) xs =
    let a = times_append w xs (again n xs) in
    let b = times_again w n xs in
    let c : suc n * times w xs ≡ times w xs + n * times w xs = omega arith in omega arith

pub times_gathered : (w : List ℕ) (f : ℕ → List (List ℕ)) (n : ℕ)
    → times w (gathered f n) ≡ added (λ m. times w (f m)) n
unfolding gathered added
times_gathered w f zero = refl
times_gathered w f (suc n) =
    let a = times_append w (gathered f n) (f n) in
    let b = times_gathered w f n in omega arith

added_same : (f g : ℕ → ℕ) → ((n : ℕ) → f n ≡ g n) → (n : ℕ) → added f n ≡ added g n
unfolding added
added_same f g same zero = refl
added_same f g same (suc n) = let a = same n in let b = added_same f g same n in omega arith

added_both : (f g : ℕ → ℕ) (n : ℕ) → added (λ m. f m + g m) n ≡ added f n + added g n
unfolding added
added_both f g zero = refl
added_both f g (suc n) = let a = added_both f g n in omega arith

added_times : (r : ℕ) (f : ℕ → ℕ) (n : ℕ) → added (λ m. r * f m) n ≡ r * added f n
unfolding added
added_times r f zero = omega arith
added_times r f (suc n) =
    let a = added_times r f n in
    let b : r * (added f n + f n) ≡ r * added f n + r * f n = omega arith in omega arith

added_none : (n : ℕ) → added (λ m. 0) n ≡ 0
unfolding added
added_none zero = refl
added_none (suc n) = let a = added_none n in omega arith

-- one seat alone has this number
added_past : (t x n : ℕ) → n ≤ t → added (λ m. cond (t == m) x 0) n ≡ 0
unfolding added
added_past t x zero past = refl
added_past t x (suc n) past =
    let a = added_past t x n (omega arith) in
    let b : cond (t == n) x 0 ≡ 0 = ap (λ b. cond b x 0) (ne_eqb t n (λ e. omega arith)) in
    omega arith

added_one : (t x n : ℕ) → t < n → added (λ m. cond (t == m) x 0) n ≡ x
unfolding added
added_one t x zero low = absurd (omega arith)
added_one t x (suc n) low = ⊎_elim
    (λ (is : t ≡ n).
    let a = added_past t x n (omega arith) in
    let b : cond (t == n) x 0 ≡ x = ap (λ b. cond b x 0) (eq-eqb t n is) in omega arith)
    (λ (ne : t ≢ n).
    let a = added_one t x n (omega arith) in
    let b : cond (t == n) x 0 ≡ 0 = ap (λ b. cond b x 0) (ne_eqb t n ne) in omega arith)
    (cases_eq t n)

abbrev flat : List File → List (List ℕ)
flat files = flat_map (λ (f : File). f) files

-- what seat n has of the first file, and of the others
taken_more : (w : List ℕ) (taker : ℕ → ℕ) (n k : ℕ) (f : File) (fs : List File)
    → times w (flat (taken_by taker n k (f ∷ fs)))
    ≡ cond (taker k == n) (times w f) 0 + times w (flat (taken_by taker n (k + 1) fs))
unfolding taken_by
taken_more w taker n k f fs = go (taker k == n)
  where
    go : (b : Bool)
        → times w (flat (cond b (f ∷ taken_by taker n (k + 1) fs) (taken_by taker n (k + 1) fs)))
        ≡ cond b (times w f) 0 + times w (flat (taken_by taker n (k + 1) fs))
    go true = times_append w f (flat (taken_by taker n (k + 1) fs))
    go false = omega arith

taken_nothing : (w : List ℕ) (taker : ℕ → ℕ) (n k : ℕ) → times w (flat (taken_by taker n k [])) ≡ 0
unfolding taken_by
taken_nothing w taker n k = refl

-- each file is taken by one of the seats
all_taken : (w : List ℕ) (taker : ℕ → ℕ) (seats : ℕ) → ((k : ℕ) → taker k < seats) → (k : ℕ)
    → (files : List File)
    → added (λ n. times w (flat (taken_by taker n k files))) seats ≡ sum_by (λ (f : File). times w f) files
all_taken w taker seats each k [] =
    added_same (λ n. times w (flat (taken_by taker n k []))) (λ n. 0)
    (λ n. taken_nothing w taker n k) seats
    ∙ added_none seats
all_taken w taker seats each k (f ∷ fs) =
    let a = added_same (λ n. times w (flat (taken_by taker n k (f ∷ fs))))
    (λ n. cond (taker k == n) (times w f) 0 + times w (flat (taken_by taker n (k + 1) fs)))
    (λ n. taken_more w taker n k f fs) seats in
    let b = added_both (λ n. cond (taker k == n) (times w f) 0)
    (λ n. times w (flat (taken_by taker n (k + 1) fs))) seats in
    let c = added_one (taker k) (times w f) seats (each k) in
    let d = all_taken w taker seats each (k + 1) fs in
    let e = sum_by-cons (λ (g : File). times w g) f fs in omega arith

-- what all seats took has each word as often as it occurs
pub taken_occurs : (w : List ℕ) (taker : ℕ → ℕ) (seats rounds : ℕ) (files : List File)
    → ((k : ℕ) → taker k < seats)
    → added (λ n. times w (taken_pieces taker rounds files n)) seats ≡ occurrences_in w rounds files
taken_occurs w taker seats rounds files each =
    added_same (λ n. times w (taken_pieces taker rounds files n))
    (λ n. rounds * times w (flat (taken_by taker n 0 files)))
    (λ n. times_again w rounds (flat (taken_by taker n 0 files))) seats
    ∙ (added_times rounds (λ n. times w (flat (taken_by taker n 0 files))) seats
    ∙ ap (λ m. rounds * m) (all_taken w taker seats each 0 files))
