-- A number of each of the first n numbers, added up, where the numbers stand for files in rounds.
use Rattle.std.specs.Prelude.{cond, map, nat_le, nat_lt, slice_index_or, ◌==◌, ◌-◌, ◌*◌, ◌/◌, ◌%◌, length}
use Rattle.std.specs.List.{count_by, filter, sum_by}
use Rattle.std.proofs.Common.{◌≡◌, ◌⊎◌, inl, inr, ⊎_elim, ℕ, zero, suc, ◌+◌, ◌<◌, ◌≤◌, Bool, true, false, List, [], ◌∷◌, refl, sym, ap, ◌∙◌, arith}
use Rattle.std.proofs.lemmas.Bool.{cases_eq, cases_lt, le-leb, lt-leb, le-ltb, lt-ltb}
use Rattle.std.proofs.lemmas.List.Sums.{sum_by-cons}
use Rattle.std.proofs.Math.Nat.{div-lt_iff_lt-mul}
use Rattle.std.proofs.lemmas.Nat.{div-mul-add, mod-mul-add}
use Rattle.ticket_shares.specs.Tickets.{IsEachOnce, file_of, is_last, ticket_times}
use Rattle.ticket_shares.proofs.Counts.{none_if, one_if, same_sums, times_cons}

true_or_false : (b : Bool) → (b ≡ true) ⊎ (b ≡ false)
true_or_false true = inl refl
true_or_false false = inr refl

-- the first n numbers, the last first
unfoldable pub firsts : ℕ → List ℕ
firsts zero = []
firsts (suc n) = n ∷ firsts n

pub one_below : (t n : ℕ) → t < n → cond {A = ℕ} (nat_lt t n) 1 0 ≡ 1
one_below t n lt = ap {B = ℕ} (λ (b : Bool). cond b 1 0) (lt-ltb t n lt)

pub none_past : (t n : ℕ) → n ≤ t → cond {A = ℕ} (nat_lt t n) 1 0 ≡ 0
none_past t n le = ap {B = ℕ} (λ (b : Bool). cond b 1 0) (le-ltb t n le)

pub firsts_once : (n : ℕ) → IsEachOnce n (firsts n)
unfolding firsts
firsts_once zero t = sym (none_past t 0 (omega arith))
firsts_once (suc n) t =
    let a = times_cons t n (firsts n) in
    let b = firsts_once n t in
    ⊎_elim
    (λ (e : t ≡ n).
    let c = one_if t n e in
    let d = none_past t n (omega arith) in
    let f = one_below t (suc n) (omega arith) in omega arith)
    (λ (e : t ≡ n → ⊥).
    let c = none_if t n e in
    ⊎_elim
    (λ (l : t < n).
    let d = one_below t n l in
    let f = one_below t (suc n) (omega arith) in omega arith)
    (λ (l : n ≤ t).
    let d = none_past t n l in
    let more : suc n ≤ t = omega arith in
    let f = none_past t (suc n) more in omega arith)
    (cases_lt t n))
    (cases_eq t n)

pub same_first : (f g : ℕ → ℕ) (n : ℕ) → ((i : ℕ) → i < n → f i ≡ g i)
    → sum_by f (firsts n) ≡ sum_by g (firsts n)
unfolding firsts
same_first f g zero same = refl
same_first f g (suc n) same =
    let a = sum_by-cons f n (firsts n) in
    let b = sum_by-cons g n (firsts n) in
    let c = same n (omega arith) in
    let d = same_first f g n (λ i lt. same i (omega arith)) in omega arith

pub none_first : (f : ℕ → ℕ) (n : ℕ) → ((i : ℕ) → i < n → f i ≡ 0) → sum_by f (firsts n) ≡ 0
unfolding firsts
none_first f zero none = refl
none_first f (suc n) none =
    let a = sum_by-cons f n (firsts n) in
    let c = none n (omega arith) in
    let d = none_first f n (λ i lt. none i (omega arith)) in omega arith

-- the first a numbers, and m more
pub more_firsts : (f : ℕ → ℕ) (a m : ℕ)
    → sum_by f (firsts (a + m)) ≡ sum_by f (firsts a) + sum_by (λ i. f (a + i)) (firsts m)
unfolding firsts
more_firsts f a zero =
    let e : a + 0 ≡ a = omega arith in
    let b = ap (λ n. sum_by f (firsts n)) e in
    let c : sum_by (λ i. f (a + i)) [] ≡ 0 = refl in omega arith
more_firsts f a (suc m) =
    let e : a + suc m ≡ suc (a + m) = omega arith in
    let b = ap (λ n. sum_by f (firsts n)) e in
    let c = sum_by-cons f (a + m) (firsts (a + m)) in
    let d = sum_by-cons (λ i. f (a + i)) m (firsts m) in
    let i = more_firsts f a m in omega arith

some_in : (r n t : ℕ) → t < r * n → 0 < n
some_in r zero t lt = let e : r * zero ≡ 0 = omega arith in absurd (omega arith)
some_in r (suc n) t lt = omega arith

module _ {A : Type 0} (none : A) where
  -- a number of each entry of a list, by its place
  by_places : (number : A → ℕ) (xs : List A)
      → sum_by (λ i. number (slice_index_or xs i none)) (firsts (length xs)) ≡ sum_by number xs
  unfolding firsts
  by_places number [] = refl
  by_places number (x ∷ xs) =
      let f : ℕ → ℕ = λ i. number (slice_index_or (x ∷ xs) i none) in
      let a = more_firsts f 1 (length xs) in
      let more : suc (length xs) ≡ 1 + length xs = omega arith in
      let e = ap (λ n. sum_by f (firsts n)) more in
      let next : (i : ℕ) → 1 + i ≡ suc i = λ i. omega arith in
      let g = same_first (λ i. f (1 + i)) (λ i. number (slice_index_or xs i none)) (length xs)
      (λ i lt. ap f (next i)) in
      let b = by_places number xs in
      let c = sum_by-cons number x xs in
      let d : sum_by f (firsts 1) ≡ 0 + number x = refl in omega arith

  -- the same in one round after the other
  by_rounds : (number : A → ℕ) (xs : List A) (rounds : ℕ)
      → sum_by (λ t. number (file_of none xs t)) (firsts (rounds * length xs))
      ≡ rounds * sum_by number xs
  unfolding firsts
  by_rounds number xs zero =
      let f : ℕ → ℕ = λ t. number (file_of none xs t) in
      let e : zero * length xs ≡ 0 = omega arith in
      let a = ap (λ n. sum_by f (firsts n)) e in
      let b : sum_by f (firsts 0) ≡ 0 = refl in omega arith
  by_rounds number xs (suc r) =
      let f : ℕ → ℕ = λ t. number (file_of none xs t) in
      let e : suc r * length xs ≡ r * length xs + length xs = omega arith in
      let a = ap (λ n. sum_by f (firsts n)) e in
      let b = more_firsts f (r * length xs) (length xs) in
      let c = by_rounds number xs r in
      let d = same_first (λ i. f (r * length xs + i)) (λ i. number (slice_index_or xs i none))
      (length xs)
      (λ i lt. ap (λ j. number (slice_index_or xs j none)) (mod-mul-add r (length xs) i lt)) in
      let g = by_places number xs in
      let h : suc r * sum_by number xs ≡ r * sum_by number xs + sum_by number xs = omega arith in
      omega arith

  pub round_sums : (number : A → ℕ) (xs : List A) (rounds : ℕ) (tickets : List ℕ)
      → IsEachOnce (rounds * length xs) tickets
      → sum_by (λ t. number (file_of none xs t)) tickets ≡ rounds * sum_by number xs
  round_sums number xs rounds tickets once =
      let n = rounds * length xs in
      same_sums tickets (firsts n) (λ t. once t ∙ sym (firsts_once n t))
      (λ t. number (file_of none xs t)) ∙ by_rounds number xs rounds

  -- how many of some tickets are of the last round, and of files that are so
  counted : (is : A → Bool) (xs : List A) (rounds t : ℕ) → ℕ
  counted is xs rounds t =
      cond (is_last rounds xs t) (cond (is (file_of none xs t)) 1 0) 0

  count_last : (is : A → Bool) (xs : List A) (rounds : ℕ) (tickets : List ℕ)
      → count_by is (map (file_of none xs) (filter (is_last rounds xs) tickets))
      ≡ sum_by (counted is xs rounds) tickets
  unfolding counted
  count_last is xs rounds [] = refl
  count_last is xs rounds (t ∷ tickets) =
      let i = count_last is xs rounds tickets in
      let a = sum_by-cons (counted is xs rounds) t tickets in
      ⊎_elim
      (λ (e : is_last rounds xs t ≡ true).
      let b = ap (λ (q : Bool). count_by is (map (file_of none xs) (cond q
      (t ∷ filter (is_last rounds xs) tickets) (filter (is_last rounds xs) tickets)))) e in
      let c = sum_by-cons (λ y. cond (is y) 1 0) (file_of none xs t)
      (map (file_of none xs) (filter (is_last rounds xs) tickets)) in
      let d = ap {B = ℕ} (λ (q : Bool). cond q (cond (is (file_of none xs t)) 1 0) 0) e in omega arith)
      (λ (e : is_last rounds xs t ≡ false).
      let b = ap (λ (q : Bool). count_by is (map (file_of none xs) (cond q
      (t ∷ filter (is_last rounds xs) tickets) (filter (is_last rounds xs) tickets)))) e in
      let d = ap {B = ℕ} (λ (q : Bool). cond q (cond (is (file_of none xs t)) 1 0) 0) e in omega arith)
      (true_or_false (is_last rounds xs t))

  -- before the last round none, and in it each file
  last_round : (is : A → Bool) (xs : List A) (r : ℕ)
      → sum_by (counted is xs (suc r)) (firsts (suc r * length xs)) ≡ count_by is xs
  unfolding counted
  last_round is xs r =
      let f = counted is xs (suc r) in
      let n = length xs in
      let e : suc r * n ≡ r * n + n = omega arith in
      let a = ap (λ m. sum_by f (firsts m)) e in
      let b = more_firsts f (r * n) n in
      let c = none_first f (r * n) (λ t lt.
      let under = (div-lt_iff_lt-mul {k = n} {x = t} {y = r} (some_in r n t lt)).1 lt in
      ap {B = ℕ} (λ (q : Bool). cond q (cond (is (file_of none xs t)) 1 0) 0)
      (lt-leb (suc r - 1) (t / n) (omega arith))) in
      let d = same_first (λ i. f (r * n + i))
      (λ i. cond (is (slice_index_or xs i none)) 1 0) n (λ i lt.
      let over = div-mul-add r n i lt in
      let here = ap {B = ℕ}
      (λ (q : Bool). cond q (cond (is (file_of none xs (r * n + i))) 1 0) 0)
      (le-leb (suc r - 1) ((r * n + i) / n) (omega arith)) in
      here ∙ ap (λ j. cond {A = ℕ} (is (slice_index_or xs j none)) 1 0) (mod-mul-add r n i lt)) in
      let g = by_places (λ x. cond (is x) 1 0) xs in omega arith

  pub round_counts : (is : A → Bool) (xs : List A) (rounds : ℕ) (tickets : List ℕ) → 1 ≤ rounds
      → IsEachOnce (rounds * length xs) tickets
      → count_by is (map (file_of none xs) (filter (is_last rounds xs) tickets)) ≡ count_by is xs
  round_counts is xs zero tickets some once = absurd (omega arith)
  round_counts is xs (suc r) tickets some once =
      let n = suc r * length xs in
      count_last is xs (suc r) tickets
      ∙ same_sums tickets (firsts n) (λ t. once t ∙ sym (firsts_once n t)) (counted is xs (suc r))
      ∙ last_round is xs r
