-- Places in a list whose numbers rise.
use Rattle.std.proofs.Common.{◌≡◌, ◌≢◌, ℕ, zero, suc, ◌+◌, ◌-◌, ◌<◌, ◌≤◌, Bool, true, false, List, [], ◌∷◌, ◌++◌, length, get_or, count_by, sum_by, refl, ap, sym, ◌∙◌, subst, arith, inl, inr}
use Rattle.std.specs.Prelude.{◌⊎◌, nat_lt, if◌then◌else◌}
use Rattle.std.proofs.lemmas.Bool.{cases_eq, cases_lt, lt-ltb, le-ltb}
use Rattle.std.proofs.lemmas.List.Sums.{sum_by-cons}
use Rattle.plain_audit.specs.plain_state.declared.slot.SlotId.{SlotId}
use Rattle.plain_audit.specs.heap_audit.Heaps.{slot}
use Rattle.taken_audit.specs.Placed.{Rises, at, placed}

count_one : (s : SlotId) (ss : List SlotId) (w : ℕ) → s.0 < w → placed (s ∷ ss) w ≡ 1 + placed ss w
count_one s ss w lt =
    let test = lt-ltb s.0 w lt in
    sum_by-cons (λ (x : SlotId). if nat_lt x.0 w then 1 else 0) s ss
    ∙ ap (λ (b : Bool). (if b then 1 else 0) + placed ss w) test

count_none : (s : SlotId) (ss : List SlotId) (w : ℕ) → w ≤ s.0 → placed (s ∷ ss) w ≡ placed ss w
count_none s ss w le =
    let test = le-ltb s.0 w le in
    let zero : 0 + placed ss w ≡ placed ss w = omega arith in
    sum_by-cons (λ (x : SlotId). if nat_lt x.0 w then 1 else 0) s ss
    ∙ (ap (λ (b : Bool). (if b then 1 else 0) + placed ss w) test ∙ zero)

-- none is below where the list begins
pub none_below : (m b : ℕ) (ss : List SlotId) (w : ℕ) → Rises m ss b → w ≤ m → placed ss w ≡ 0
none_below m b [] w rises low = refl
none_below m b (s ∷ ss) w rises low =
    count_none s ss w (omega (arith, rises.0, low))
    ∙ none_below (suc s.0) b ss w rises.1 (omega (arith, rises.0, low))

pub at_least : (m b : ℕ) (ss : List SlotId) (k : ℕ) → Rises m ss b → k < length ss → m ≤ (at ss k).0
at_least m b [] k rises lt = absurd (omega arith)
at_least m b (s ∷ ss) zero rises lt = rises.0
at_least m b (s ∷ ss) (suc k) rises lt =
    let more = at_least (suc s.0) b ss k rises.1 (omega (arith, lt)) in
    omega (arith, more, rises.0)

pub ends_below : (m b : ℕ) (ss : List SlotId) → Rises m ss b → m ≤ b
ends_below m b [] rises = rises
ends_below m b (s ∷ ss) rises =
    let more = ends_below (suc s.0) b ss rises.1 in omega (arith, more, rises.0)

pub at_below : (m b : ℕ) (ss : List SlotId) (k : ℕ) → Rises m ss b → k < length ss → (at ss k).0 < b
at_below m b [] k rises lt = absurd (omega arith)
at_below m b (s ∷ ss) zero rises lt =
    let more = ends_below (suc s.0) b ss rises.1 in omega (arith, more)
at_below m b (s ∷ ss) (suc k) rises lt = at_below (suc s.0) b ss k rises.1 (omega (arith, lt))

-- a slot's word names its place
pub place_is : (m b : ℕ) (ss : List SlotId) (k : ℕ) → Rises m ss b → k < length ss
    → placed ss ((at ss k).0 + 1) ≡ k + 1
place_is m b [] k rises lt = absurd (omega arith)
place_is m b (s ∷ ss) zero rises lt =
    let one = count_one s ss (s.0 + 1) (omega arith) in
    let none = none_below (suc s.0) b ss (s.0 + 1) rises.1 (omega arith) in
    omega (arith, one, none)
place_is m b (s ∷ ss) (suc k) rises lt =
    let here = at_least (suc s.0) b ss k rises.1 (omega (arith, lt)) in
    let one = count_one s ss ((at ss k).0 + 1) (omega (arith, here)) in
    let rest = place_is (suc s.0) b ss k rises.1 (omega (arith, lt)) in
    omega (arith, one, rest)

pub null_place : (m b : ℕ) (ss : List SlotId) → Rises m ss b → placed ss 0 ≡ 0
null_place m b ss rises = none_below m b ss 0 rises (omega arith)

-- one more at the end
pub rises_more : (m b : ℕ) (ss : List SlotId) (s : SlotId) → Rises m ss b → b ≤ s.0
    → Rises m (ss ++ s ∷ []) (suc s.0)
rises_more m b [] s rises le = (omega (arith, rises, le), omega arith)
rises_more m b (x ∷ ss) s rises le = (rises.0, rises_more (suc x.0) b ss s rises.1 le)

pub rises_on : (m b c : ℕ) (ss : List SlotId) → Rises m ss b → b ≤ c → Rises m ss c
rises_on m b c [] rises le = omega (arith, rises, le)
rises_on m b c (s ∷ ss) rises le = (rises.0, rises_on (suc s.0) b c ss rises.1 le)

-- slots of two places differ
pub place_once : (m b : ℕ) (ss : List SlotId) (j k : ℕ) → Rises m ss b → j < length ss
    → k < length ss → (at ss j).0 ≡ (at ss k).0 → j ≡ k
place_once m b ss j k rises hj hk same =
    let one = place_is m b ss j rises hj in
    let two = place_is m b ss k rises hk in
    let e : placed ss ((at ss j).0 + 1) ≡ placed ss ((at ss k).0 + 1) =
    ap (λ (n : ℕ). placed ss (n + 1)) same in
    omega (arith, one, two, e)

pub placed_most : (ss : List SlotId) (w : ℕ) → placed ss w ≤ length ss
placed_most [] w = omega arith
placed_most (s ∷ ss) w =
    let rest = placed_most ss w in
    elim (cases_lt s.0 w) [
      | inl lt ↦ let one = count_one s ss w lt in omega (arith, one, rest)
      | inr le ↦ let none = count_none s ss w le in omega (arith, none, rest)
    ]

pub rises_few : (m b : ℕ) (ss : List SlotId) → Rises m ss b → length ss + m ≤ b
rises_few m b [] rises = omega (arith, rises)
rises_few m b (s ∷ ss) rises =
    let rest = rises_few (suc s.0) b ss rises.1 in
    let first = rises.0 in omega (arith, rest, first)

pub rises_within : (m b : ℕ) (ss : List SlotId) (k : ℕ) (d : SlotId) → Rises m ss b
    → k < length ss → (get_or ss k d).0 < b
rises_within m b [] k d rises lt = absurd (omega (arith, lt))
rises_within m b (s ∷ ss) zero d rises lt =
    let more = ends_below (suc s.0) b ss rises.1 in omega (arith, more)
rises_within m b (s ∷ ss) (suc k) d rises lt =
    rises_within (suc s.0) b ss k d rises.1 (omega (arith, lt))
