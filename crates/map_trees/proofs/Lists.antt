-- Changes of an ascending list, left and right of a pair.
use Rattle.std.proofs.Common.{◌≡◌, ◌≢◌, ℕ, ◌<◌, ◌≤◌, Bool, true, false, List, [], ◌∷◌, ◌++◌, refl, ap, sym, arith}
use Rattle.std.specs.Prelude.{if◌then◌else◌, ◌==◌, nat_lt, Some, None}
use Rattle.std.proofs.lemmas.Bool.Decides.{nat_tests}
use Rattle.map_trees.specs.Trees.{Pair, pair, AllBelow, AllAbove, Ascends}
use Rattle.map_trees.specs.Maps.{get, put, take}

pub if_true : {A : Type 0} (b : Bool) (x y : A) → b ≡ true → (if b then x else y) ≡ x
if_true true x y e = refl
if_true false x y e = absurd cc

pub if_false : {A : Type 0} (b : Bool) (x y : A) → b ≡ false → (if b then x else y) ≡ y
if_false false x y e = refl
if_false true x y e = absurd cc

pub lt_true : (m n : ℕ) → m < n → nat_lt m n ≡ true
lt_true m n h = grind (arith, nat_tests)

pub lt_false : (m n : ℕ) → n ≤ m → nat_lt m n ≡ false
lt_false m n h = grind (arith, nat_tests)

pub eq_true : (m n : ℕ) → m ≡ n → (m == n) ≡ true
eq_true m n h = grind (arith, nat_tests)

pub eq_false : (m n : ℕ) → m ≢ n → (m == n) ≡ false
eq_false m n h = grind (arith, nat_tests)

-- which way a key goes
pub data Way (k a : ℕ) : Type 0 where
  left : k < a → nat_lt k a ≡ true → (a == k) ≡ false → Way k a
  here : k ≡ a → nat_lt k a ≡ false → (a == k) ≡ true → Way k a
  right : a < k → nat_lt k a ≡ false → (a == k) ≡ false → Way k a

pub way : (k a : ℕ) → Way k a
way k a = go (nat_lt k a) refl (a == k) refl
  where
    go : (x : Bool) → nat_lt k a ≡ x → (y : Bool) → (a == k) ≡ y → Way k a
    go true e y f = let h : k < a = grind (arith, nat_tests) in left h e (eq_false a k (omega arith))
    go false e true f = let h : k ≡ a = grind (arith, nat_tests) in here h e f
    go false e false f = let h : a < k = grind (arith, nat_tests) in right h e f

pub append_assoc : (xs ys zs : List Pair) → (xs ++ ys) ++ zs ≡ xs ++ (ys ++ zs)
append_assoc [] ys zs = refl
append_assoc (x ∷ xs) ys zs = ap (λ (l : List Pair). x ∷ l) (append_assoc xs ys zs)

pub append_nil : (xs : List Pair) → xs ++ [] ≡ xs
append_nil [] = refl
append_nil (x ∷ xs) = ap (λ (l : List Pair). x ∷ l) (append_nil xs)

-- ORDER
pub below_more : (m n : ℕ) (xs : List Pair) → m ≤ n → AllBelow m xs → AllBelow n xs
below_more m n [] le h = tt
below_more m n (x ∷ xs) le h = ((let a = h.0 in omega arith), below_more m n xs le h.1)

pub above_more : (m n : ℕ) (xs : List Pair) → n ≤ m → AllAbove m xs → AllAbove n xs
above_more m n [] le h = tt
above_more m n (x ∷ xs) le h = ((let a = h.0 in omega arith), above_more m n xs le h.1)

above_left : (n : ℕ) (xs ys : List Pair) → AllAbove n (xs ++ ys) → AllAbove n xs
above_left n [] ys h = tt
above_left n (x ∷ xs) ys h = (h.0, above_left n xs ys h.1)

above_at : (n : ℕ) (xs : List Pair) (y : Pair) (ys : List Pair) → AllAbove n (xs ++ y ∷ ys) → n < y.key
above_at n [] y ys h = h.0
above_at n (x ∷ xs) y ys h = above_at n xs y ys h.1

pub record Parts (xs : List Pair) (y : Pair) (ys : List Pair) : Type 0 where
  pub before : Ascends xs
  pub below : AllBelow y.key xs
  pub above : AllAbove y.key ys
  pub after : Ascends ys

pub parts : (xs : List Pair) (y : Pair) (ys : List Pair) → Ascends (xs ++ y ∷ ys) → Parts xs y ys
parts [] y ys h = record { before = tt; below = tt; above = h.0; after = h.1 }
parts (x ∷ xs) y ys h =
    let r = parts xs y ys h.1 in
    record {
      before = (above_left x.key xs (y ∷ ys) h.0, r.before);
      below = (above_at x.key xs y ys h.0, r.below);
      above = r.above;
      after = r.after;
    }

-- PUT
pub put_left : (k v : ℕ) (xs : List Pair) (y : Pair) (ys : List Pair) → k < y.key
    → put k v (xs ++ y ∷ ys) ≡ put k v xs ++ y ∷ ys
put_left k v [] y ys h = if_true (nat_lt k y.key) _ _ (lt_true k y.key h)
put_left k v (x ∷ xs) y ys h = go (way k x.key) (put_left k v xs y ys h)
  where
    go : Way k x.key → (put k v (xs ++ y ∷ ys) ≡ put k v xs ++ y ∷ ys)
        → put k v (x ∷ (xs ++ y ∷ ys)) ≡ put k v (x ∷ xs) ++ y ∷ ys
    go (left a b c) i = rw b refl
    go (here a b c) i = rw b (rw c (refl))
    go (right a b c) i = rw b (rw c (ap (λ (l : List Pair). x ∷ l) (i)))

pub put_here : (k v : ℕ) (xs : List Pair) (y : Pair) (ys : List Pair) → k ≡ y.key → AllBelow y.key xs
    → put k v (xs ++ y ∷ ys) ≡ xs ++ pair k v ∷ ys
put_here k v [] y ys h b = let c = lt_false k y.key (omega arith) in let d = eq_true y.key k (sym h) in
    rw c (rw d (refl))
put_here k v (x ∷ xs) y ys h b =
    let e = b.0 in
    let c = lt_false k x.key (omega arith) in let d = eq_false x.key k (omega arith) in
    rw c (rw d (ap (λ (l : List Pair). x ∷ l) (put_here k v xs y ys h b.1)))

pub put_right : (k v : ℕ) (xs : List Pair) (y : Pair) (ys : List Pair) → y.key < k → AllBelow y.key xs
    → put k v (xs ++ y ∷ ys) ≡ xs ++ y ∷ put k v ys
put_right k v [] y ys h b = let c = lt_false k y.key (omega arith) in let d = eq_false y.key k (omega arith) in
    rw c (rw d (refl))
put_right k v (x ∷ xs) y ys h b =
    let e = b.0 in
    let c = lt_false k x.key (omega arith) in let d = eq_false x.key k (omega arith) in
    rw c (rw d (ap (λ (l : List Pair). x ∷ l) (put_right k v xs y ys h b.1)))

put_above : (n k v : ℕ) (xs : List Pair) → n < k → AllAbove n xs → AllAbove n (put k v xs)
put_above n k v [] h a = (h, tt)
put_above n k v (x ∷ xs) h a = go (way k x.key) (put_above n k v xs h a.1)
  where
    go : Way k x.key → (AllAbove n (put k v xs)) → AllAbove n (put k v (x ∷ xs))
    go (left p b c) i = rw b (h, (a.0, a.1))
    go (here p b c) i = rw b (rw c ((h, a.1)))
    go (right p b c) i = rw b (rw c ((a.0, i)))

pub put_ascends : (k v : ℕ) (xs : List Pair) → Ascends xs → Ascends (put k v xs)
put_ascends k v [] h = (tt, tt)
put_ascends k v (x ∷ xs) h = go (way k x.key) (put_ascends k v xs h.1)
  where
    go : Way k x.key → (Ascends (put k v xs)) → Ascends (put k v (x ∷ xs))
    go (left p b c) i = rw b ((p, above_more x.key k xs (omega arith) h.0), h)
    go (here p b c) i = rw b (rw c ((above_more x.key k xs (omega arith) h.0, h.1)))
    go (right p b c) i = rw b (rw c ((put_above x.key k v xs p h.0, i)))

-- TAKE
pub take_none : (k : ℕ) (xs : List Pair) → AllAbove k xs → take k xs ≡ xs
take_none k [] h = refl
take_none k (x ∷ xs) h = let e = h.0 in let d = eq_false x.key k (omega arith) in
    rw d (ap (λ (l : List Pair). x ∷ l) (take_none k xs h.1))

pub take_left : (k : ℕ) (xs : List Pair) (y : Pair) (ys : List Pair) → k < y.key → AllAbove y.key ys
    → take k (xs ++ y ∷ ys) ≡ take k xs ++ y ∷ ys
take_left k [] y ys h a = let d = eq_false y.key k (omega arith) in
    rw d (ap (λ (l : List Pair). y ∷ l) (take_none k ys (above_more y.key k ys (omega arith) a)))
take_left k (x ∷ xs) y ys h a = go (x.key == k) refl (take_left k xs y ys h a)
  where
    go : (b : Bool) → (x.key == k) ≡ b → (take k (xs ++ y ∷ ys) ≡ take k xs ++ y ∷ ys)
        → take k (x ∷ (xs ++ y ∷ ys)) ≡ take k (x ∷ xs) ++ y ∷ ys
    go true e i = rw e refl
    go false e i = rw e (ap (λ (l : List Pair). x ∷ l) (i))

pub take_here : (k : ℕ) (xs : List Pair) (y : Pair) (ys : List Pair) → k ≡ y.key → AllBelow y.key xs
    → take k (xs ++ y ∷ ys) ≡ xs ++ ys
take_here k [] y ys h b = let d = eq_true y.key k (sym h) in rw d refl
take_here k (x ∷ xs) y ys h b = let e = b.0 in let d = eq_false x.key k (omega arith) in
    rw d (ap (λ (l : List Pair). x ∷ l) (take_here k xs y ys h b.1))

pub take_right : (k : ℕ) (xs : List Pair) (y : Pair) (ys : List Pair) → y.key < k → AllBelow y.key xs
    → take k (xs ++ y ∷ ys) ≡ xs ++ y ∷ take k ys
take_right k [] y ys h b = let d = eq_false y.key k (omega arith) in rw d refl
take_right k (x ∷ xs) y ys h b = let e = b.0 in let d = eq_false x.key k (omega arith) in
    rw d (ap (λ (l : List Pair). x ∷ l) (take_right k xs y ys h b.1))

take_above : (n k : ℕ) (xs : List Pair) → AllAbove n xs → AllAbove n (take k xs)
take_above n k [] a = tt
take_above n k (x ∷ xs) a = go (x.key == k) refl (take_above n k xs a.1)
  where
    go : (b : Bool) → (x.key == k) ≡ b → (AllAbove n (take k xs)) → AllAbove n (take k (x ∷ xs))
    go true e i = rw e a.1
    go false e i = rw e (a.0, i)

pub take_ascends : (k : ℕ) (xs : List Pair) → Ascends xs → Ascends (take k xs)
take_ascends k [] h = tt
take_ascends k (x ∷ xs) h = go (x.key == k) refl (take_ascends k xs h.1)
  where
    go : (b : Bool) → (x.key == k) ≡ b → (Ascends (take k xs)) → Ascends (take k (x ∷ xs))
    go true e i = rw e h.1
    go false e i = rw e (take_above x.key k xs h.0, i)

-- GET
pub get_none : (k : ℕ) (xs : List Pair) → AllAbove k xs → get k xs ≡ None
get_none k [] h = refl
get_none k (x ∷ xs) h = let e = h.0 in let d = eq_false x.key k (omega arith) in rw d (get_none k xs h.1)

pub get_left : (k : ℕ) (xs : List Pair) (y : Pair) (ys : List Pair) → k < y.key → AllAbove y.key ys
    → get k (xs ++ y ∷ ys) ≡ get k xs
get_left k [] y ys h a = let d = eq_false y.key k (omega arith) in
    rw d (get_none k ys (above_more y.key k ys (omega arith) a))
get_left k (x ∷ xs) y ys h a = go (x.key == k) refl (get_left k xs y ys h a)
  where
    go : (b : Bool) → (x.key == k) ≡ b → (get k (xs ++ y ∷ ys) ≡ get k xs)
        → get k (x ∷ (xs ++ y ∷ ys)) ≡ get k (x ∷ xs)
    go true e i = rw e refl
    go false e i = rw e (i)

pub get_here : (k : ℕ) (xs : List Pair) (y : Pair) (ys : List Pair) → k ≡ y.key → AllBelow y.key xs
    → get k (xs ++ y ∷ ys) ≡ Some y.value
get_here k [] y ys h b = let d = eq_true y.key k (sym h) in rw d refl
get_here k (x ∷ xs) y ys h b = let e = b.0 in let d = eq_false x.key k (omega arith) in
    rw d (get_here k xs y ys h b.1)

pub get_right : (k : ℕ) (xs : List Pair) (y : Pair) (ys : List Pair) → y.key < k → AllBelow y.key xs
    → get k (xs ++ y ∷ ys) ≡ get k ys
get_right k [] y ys h b = let d = eq_false y.key k (omega arith) in rw d refl
get_right k (x ∷ xs) y ys h b = let e = b.0 in let d = eq_false x.key k (omega arith) in
    rw d (get_right k xs y ys h b.1)
