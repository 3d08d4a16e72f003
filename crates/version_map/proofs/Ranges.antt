-- The pairs of a range, from the least one on.
use Rattle.std.proofs.Common.{◌≡◌, ℕ, zero, suc, ◌+◌, ◌<◌, ◌≤◌, Bool, true, false, List, [], ◌∷◌, ◌++◌, length, map, take, set, refl, ap, sym, ◌∙◌, subst, arith}
use Rattle.std.specs.Prelude.{Some, None, ◌||◌, if◌then◌else◌, nat_lt}
use Rattle.std.proofs.lemmas.Bool.{false≢true}
use Rattle.std.proofs.lemmas.Bool.Decides.{nat_tests}
use Rattle.version_changes.specs.map_trees.Trees.{AllAbove, Ascends, Pair, pair}
use Rattle.version_changes.specs.map_trees.Maps.{next}
use Rattle.version_changes.proofs.Below.map_trees_Lists.{lt_false, lt_true}
use Rattle.version_map.specs.Maps.{first_pairs, within}

-- a pair outside the range, and one inside
skips_low : (low high : ℕ) (x : Pair) (xs : List Pair) → x.key < low
    → within low high (x ∷ xs) ≡ within low high xs
skips_low low high x xs less = let a = lt_true x.key low less in rw a refl

skips_high : (low high : ℕ) (x : Pair) (xs : List Pair) → high < x.key
    → within low high (x ∷ xs) ≡ within low high xs
skips_high low high x xs more =
    let a = lt_true high x.key more in go (nat_lt x.key low) (nat_lt high x.key) a
  where
    go : (b e : Bool) → e ≡ true → (if b || e then within low high xs else x ∷ within low high xs)
        ≡ within low high xs
    go true e is = refl
    go false true is = refl
    go false false is = absurd (false≢true is)

takes : (low high : ℕ) (x : Pair) (xs : List Pair) → low ≤ x.key → x.key ≤ high
    → within low high (x ∷ xs) ≡ x ∷ within low high xs
takes low high x xs least most =
    let a = lt_false x.key low least in let b = lt_false high x.key most in rw a (rw b refl)

-- what lies above n has the same pairs from n + 1 on, and none up to n
above_same : (low high n : ℕ) (xs : List Pair) → AllAbove n xs → low ≤ n + 1
    → within low high xs ≡ within (n + 1) high xs
above_same low high n [] above least = refl
above_same low high n (x ∷ xs) above least =
    let first = above.0 in
    let a = lt_false x.key low (omega (arith, first, least)) in
    let b = lt_false x.key (n + 1) (omega (arith, first)) in
    let rest = above_same low high n xs above.1 least in
    go (nat_lt x.key low) (nat_lt x.key (n + 1)) (nat_lt high x.key) a b rest
  where
    go : (b e h : Bool) → b ≡ false → e ≡ false → within low high xs ≡ within (n + 1) high xs
        → (if b || h then within low high xs else x ∷ within low high xs)
        ≡ (if e || h then within (n + 1) high xs else x ∷ within (n + 1) high xs)
    go false false true p q rest = rest
    go false false false p q rest = ap (λ (ys : List Pair). x ∷ ys) rest
    go true e h p q rest = absurd (false≢true (sym p))
    go false true h p q rest = absurd (false≢true (sym q))

above_none : (low high n : ℕ) (xs : List Pair) → AllAbove n xs → high ≤ n → within low high xs ≡ []
above_none low high n [] above most = refl
above_none low high n (x ∷ xs) above most =
    let first = above.0 in
    skips_high low high x xs (omega (arith, first, most)) ∙ above_none low high n xs above.1 most

-- an empty range
pub empty_range : (low high : ℕ) (xs : List Pair) → high < low → within low high xs ≡ []
empty_range low high [] less = refl
empty_range low high (x ∷ xs) less = go (nat_lt x.key low) refl (empty_range low high xs less)
  where
    go : (b : Bool) → nat_lt x.key low ≡ b → within low high xs ≡ []
        → within low high (x ∷ xs) ≡ []
    go true is rest = skips_low low high x xs (grind (arith, nat_tests)) ∙ rest
    go false is rest =
        let least : low ≤ x.key = grind (arith, nat_tests) in
        skips_high low high x xs (omega (arith, least, less)) ∙ rest

-- FROM THE LEAST PAIR ON
pub none_left : (low high : ℕ) (xs : List Pair) → next low xs ≡ None → within low high xs ≡ []
none_left low high [] none = refl
none_left low high (x ∷ xs) none =
    go (nat_lt x.key low) refl none (λ (e : next low xs ≡ None). none_left low high xs e)
  where
    go : (b : Bool) → nat_lt x.key low ≡ b → (if b then next low xs else Some x) ≡ None
        → (next low xs ≡ None → within low high xs ≡ []) → within low high (x ∷ xs) ≡ []
    go true is none rest = skips_low low high x xs (grind (arith, nat_tests)) ∙ rest none
    go false is none rest = absurd (cc (none))

pub past_left : (low high : ℕ) (xs : List Pair) (y : Pair) → Ascends xs → next low xs ≡ Some y
    → high < y.key → within low high xs ≡ []
past_left low high [] y ascends is more = refl
past_left low high (x ∷ xs) y ascends is more =
    go (nat_lt x.key low) refl is
    (λ (e : next low xs ≡ Some y). past_left low high xs y ascends.1 e more)
  where
    go : (b : Bool) → nat_lt x.key low ≡ b → (if b then next low xs else Some x) ≡ Some y
        → (next low xs ≡ Some y → within low high xs ≡ []) → within low high (x ∷ xs) ≡ []
    go true less is rest = skips_low low high x xs (grind (arith, nat_tests)) ∙ rest is
    go false less is rest =
        let same : x ≡ y = cc (is) in
        let big : high < x.key = subst (λ (z : Pair). high < z.key) (sym same) more in
        skips_high low high x xs big ∙ above_none low high x.key xs ascends.0 (omega (arith, big))

next_low : (low : ℕ) (xs : List Pair) (y : Pair) → next low xs ≡ Some y → low ≤ y.key
next_low low [] y is = absurd (cc (is))
next_low low (x ∷ xs) y is =
    go (nat_lt x.key low) refl is (λ (e : next low xs ≡ Some y). next_low low xs y e)
  where
    go : (b : Bool) → nat_lt x.key low ≡ b → (if b then next low xs else Some x) ≡ Some y
        → (next low xs ≡ Some y → low ≤ y.key) → low ≤ y.key
    go true less is rest = rest is
    go false less is rest =
        let same : x ≡ y = cc (is) in
        let least : low ≤ x.key = grind (arith, nat_tests) in
        subst (λ (z : Pair). low ≤ z.key) same least

pub one_left : (low high : ℕ) (xs : List Pair) (y : Pair) → Ascends xs → next low xs ≡ Some y
    → y.key ≤ high → within low high xs ≡ y ∷ within (y.key + 1) high xs
one_left low high [] y ascends is most = absurd (cc (is))
one_left low high (x ∷ xs) y ascends is most =
    go (nat_lt x.key low) refl is
    (λ (e : next low xs ≡ Some y). one_left low high xs y ascends.1 e most)
  where
    go : (b : Bool) → nat_lt x.key low ≡ b → (if b then next low xs else Some x) ≡ Some y
        → (next low xs ≡ Some y → within low high xs ≡ y ∷ within (y.key + 1) high xs)
        → within low high (x ∷ xs) ≡ y ∷ within (y.key + 1) high (x ∷ xs)
    go true less is rest =
        let small : x.key < low = grind (arith, nat_tests) in
        let least = next_low low xs y is in
        skips_low low high x xs small
        ∙ (rest is
        ∙ ap (λ (zs : List Pair). y ∷ zs)
        (sym (skips_low (y.key + 1) high x xs (omega (arith, small, least)))))
    go false less is rest =
        let same : x ≡ y = cc (is) in
        let least : low ≤ x.key = grind (arith, nat_tests) in
        subst (λ (z : Pair). within low high (x ∷ xs) ≡ z ∷ within (z.key + 1) high (x ∷ xs)) same
        (takes low high x xs least (subst (λ (z : Pair). z.key ≤ high) (sym same) most)
        ∙ ap (λ (zs : List Pair). x ∷ zs)
        (above_same low high x.key xs ascends.0 (omega (arith, least))
        ∙ sym (skips_low (x.key + 1) high x xs (omega arith))))

-- THE BUFFER
abbrev pub pair_of : ℕ × ℕ → Pair
pair_of x = pair x.0 x.1

put_next : (out : List (ℕ × ℕ)) (n : ℕ) (x : ℕ × ℕ) → n < length out
    → map pair_of (take (suc n) (set out n x)) ≡ map pair_of (take n out) ++ pair_of x ∷ []
put_next [] n x low = absurd (omega (arith, low))
put_next (y ∷ out) zero x low = refl
put_next (y ∷ out) (suc n) x low =
    ap (λ (zs : List Pair). pair_of y ∷ zs) (put_next out n x (omega (arith, low)))

pub first_put : (out : List (ℕ × ℕ)) (n : ℕ) (x : ℕ × ℕ) → n < length out
    → first_pairs (n + 1) (set out n x) ≡ first_pairs n out ++ pair_of x ∷ []
first_put out n x low =
    let same : suc n ≡ n + 1 = omega arith in
    subst (λ (m : ℕ). first_pairs m (set out n x) ≡ first_pairs n out ++ pair_of x ∷ [])
    same (put_next out n x low)

pub first_length : (n : ℕ) (out : List (ℕ × ℕ)) → n ≤ length out → length (first_pairs n out) ≡ n
first_length zero out low = refl
first_length (suc n) [] low = absurd (omega (arith, low))
first_length (suc n) (x ∷ out) low =
    let rest = first_length n out (omega (arith, low)) in omega (arith, rest)
