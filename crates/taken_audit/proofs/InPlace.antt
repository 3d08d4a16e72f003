-- A list that is gone over in place, and how many stand before the point that a search finds.
use Rattle.std.proofs.Common.{◌≡◌, ◌≢◌, ℕ, zero, suc, ◌+◌, ◌<◌, ◌≤◌, Bool, true, false, List, [], ◌∷◌, length, get_or, map, count_by, refl, ap, sym, ◌∙◌, subst, arith, inl, inr}
use Rattle.std.specs.Prelude.{nat_lt, if◌then◌else◌}
use Rattle.std.specs.List.Sorted.{IsPartitionPoint, IsPartitionedBy}
use Rattle.std.proofs.Math.ListN.{set}
use Rattle.std.proofs.lemmas.Bool.{cases_eq, cases_lt, lt-ltb, le-ltb}
use Rattle.std.proofs.lemmas.List.{get_or-set_other, get_or-set_same, length-set}
use Rattle.std.proofs.lemmas.List.Sums.{sum_by-cons}
use Rattle.plain_audit.specs.plain_state.declared.slot.SlotId.{SlotId}
use Rattle.taken_audit.specs.Placed.{Rises, placed}

module _ {X : Type 0} (f : X → X) (d : X) (old : List X) where
  -- the first i elements were taken over
  pub record Done (i : ℕ) (xs : List X) : Type 0 where
    pub size : length xs ≡ length old
    pub done : (k : ℕ) → k < i → get_or xs k d ≡ f (get_or old k d)
    pub left : (k : ℕ) → i ≤ k → get_or xs k d ≡ get_or old k d

  pub done_first : Done 0 old
  done_first = record { size = refl; done = λ k lt. absurd (omega (arith, lt)); left = λ k le. refl }

  pub done_next : (i : ℕ) (xs : List X) (x : X) → i < length old → Done i xs
      → x ≡ f (get_or xs i d) → Done (i + 1) (set xs i x)
  done_next i xs x lt is e = record {
    size = length-set xs i x ∙ is.size;
    done = λ k below. elim (cases_eq k i) [
      | inl same ↦
          ap (λ (n : ℕ). get_or (set xs i x) n d) same
          ∙ (get_or-set_same xs i x d (let s = is.size in omega (arith, lt, s))
          ∙ (e ∙ (ap f (is.left i (omega arith)) ∙ ap (λ (n : ℕ). f (get_or old n d)) (sym same))))
      | inr other ↦
          get_or-set_other xs i k x d other ∙ is.done k (omega (arith, below, other))
    ];
    left = λ k le.
        get_or-set_other xs i k x d (λ same. omega (arith, le, same)) ∙ is.left k (omega (arith, le));
  }

same_list : {X : Type 0} (d : X) (xs ys : List X) → length xs ≡ length ys
    → ((k : ℕ) → k < length ys → get_or xs k d ≡ get_or ys k d) → xs ≡ ys
same_list d [] [] size each = refl
same_list d [] (y ∷ ys) size each = absurd (omega (arith, size))
same_list d (x ∷ xs) [] size each = absurd (omega (arith, size))
same_list d (x ∷ xs) (y ∷ ys) size each =
    let head : x ≡ y = each zero (omega arith) in
    let tail = same_list d xs ys (omega (arith, size)) (λ k lt. each (suc k) (omega (arith, lt))) in
    λ i. head i ∷ tail i

mapped_at : {X : Type 0} (f : X → X) (d : X) (xs : List X) (k : ℕ) → k < length xs
    → get_or (map f xs) k d ≡ f (get_or xs k d)
mapped_at f d [] k lt = absurd (omega (arith, lt))
mapped_at f d (x ∷ xs) zero lt = refl
mapped_at f d (x ∷ xs) (suc k) lt = mapped_at f d xs k (omega (arith, lt))

mapped_size : {X : Type 0} (f : X → X) (xs : List X) → length (map f xs) ≡ length xs
mapped_size f [] = refl
mapped_size f (x ∷ xs) = ap suc (mapped_size f xs)

pub done_all : {X : Type 0} (f : X → X) (d : X) (old xs : List X) (i : ℕ) → i ≡ length xs
    → Done f d old i xs → xs ≡ map f old
done_all f d old xs i all is =
    let size = is.size in
    let count = mapped_size f old in
    same_list d xs (map f old) (omega (arith, size, count))
    (λ k lt. is.done k (omega (arith, lt, all, size, count))
    ∙ sym (mapped_at f d old k (omega (arith, lt, count))))

-- as many pass a test as stand before the first that doesn't
count_point : {X : Type 0} (p : X → Bool) (xs : List X) (i : ℕ) → i ≤ length xs
    → ((k : ℕ) (d : X) → k < i → p (get_or xs k d) ≡ true)
    → ((k : ℕ) (d : X) → i ≤ k → k < length xs → p (get_or xs k d) ≡ false)
    → count_by p xs ≡ i
count_point p [] i le before after = omega (arith, le)
count_point p (x ∷ xs) zero le before after =
    let test : p x ≡ false = after zero x (omega arith) (omega arith) in
    let rest = count_point p xs zero (omega arith) (λ k d lt. absurd (omega (arith, lt)))
    (λ k d low lt. after (suc k) d (omega arith) (omega (arith, lt))) in
    let all = sum_by-cons (λ (y : _). if p y then 1 else 0) x xs in
    let one = ap {B = ℕ} (λ (b : Bool). if b then 1 else 0) test in
    omega (arith, rest, all, one)
count_point p (x ∷ xs) (suc i) le before after =
    let test : p x ≡ true = before zero x (omega arith) in
    let rest = count_point p xs i (omega (arith, le))
    (λ k d lt. before (suc k) d (omega (arith, lt)))
    (λ k d low lt. after (suc k) d (omega (arith, low)) (omega (arith, lt))) in
    let all = sum_by-cons (λ (y : _). if p y then 1 else 0) x xs in
    let one = ap {B = ℕ} (λ (b : Bool). if b then 1 else 0) test in
    omega (arith, rest, all, one)

rises_at : (m b : ℕ) (ss : List SlotId) (j : ℕ) (d : SlotId) → Rises m ss b → j < length ss
    → m ≤ (get_or ss j d).0
rises_at m b [] j d rises lt = absurd (omega (arith, lt))
rises_at m b (s ∷ ss) zero d rises lt = rises.0
rises_at m b (s ∷ ss) (suc j) d rises lt =
    let more = rises_at (suc s.0) b ss j d rises.1 (omega (arith, lt)) in
    let first = rises.0 in omega (arith, more, first)

rises_between : (m b : ℕ) (ss : List SlotId) (i j : ℕ) (d : SlotId) → Rises m ss b → i ≤ j
    → j < length ss → (get_or ss i d).0 ≤ (get_or ss j d).0
rises_between m b [] i j d rises le lt = absurd (omega (arith, lt))
rises_between m b (s ∷ ss) zero zero d rises le lt = omega arith
rises_between m b (s ∷ ss) zero (suc j) d rises le lt =
    let more = rises_at (suc s.0) b ss j d rises.1 (omega (arith, lt)) in omega (arith, more)
rises_between m b (s ∷ ss) (suc i) zero d rises le lt = absurd (omega (arith, le))
rises_between m b (s ∷ ss) (suc i) (suc j) d rises le lt =
    rises_between (suc s.0) b ss i j d rises.1 (omega (arith, le)) (omega (arith, lt))

below_of : (s w : ℕ) → nat_lt s w ≡ true → s < w
below_of s w test = elim (cases_lt s w) [
  | inl lt ↦ lt
  | inr le ↦ let other = le-ltb s w le in absurd (cc (test, other))
]

pub parted : (b : ℕ) (taken : List SlotId) (w : ℕ) → Rises 0 taken b
    → IsPartitionedBy (λ (s : SlotId). nat_lt s.0 w) taken
parted b taken w rises i j d le lt test =
    let low = below_of (get_or taken j d).0 w test in
    let between = rises_between 0 b taken i j d rises le lt in
    lt-ltb (get_or taken i d).0 w (omega (arith, low, between))

pub point_placed : (taken : List SlotId) (w i : ℕ) → i ≤ length taken
    → IsPartitionPoint (λ (s : SlotId). nat_lt s.0 w ≡ true) (λ (s : SlotId). nat_lt s.0 w ≡ false) taken i
    → i ≡ placed taken w
point_placed taken w i le point = sym (count_point (λ (s : SlotId). nat_lt s.0 w) taken i le
    (λ k d lt. point.0 k d (omega arith) lt) (λ k d low lt. point.1 k d low lt))
