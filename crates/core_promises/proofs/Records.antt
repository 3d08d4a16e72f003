-- The records that are kept of seats that have left.
use Rattle.std.proofs.Common.{◌≡◌, ◌≢◌, ◌⊎◌, inl, inr, ⊎_elim, ℕ, true, false, List, [], ◌∷◌, ◌++◌, refl, ap, arith}
use Rattle.std.specs.Prelude.{◌==◌, if◌then◌else◌}
use Rattle.std.proofs.lemmas.Bool.Decides.{nat_tests}
use Rattle.core_law.specs.core_events.declared.view.LeftSeat.{LeftSeat}
use Rattle.core_law.specs.core_events.declared.view.Move.{Move}
use Rattle.core_promises.specs.Trails.{left_trail}

-- a record of seat n is kept
abbrev pub Has : ℕ → List LeftSeat → Type 0
Has n [] = ⊥
Has n (l ∷ ls) = (l.seat ≡ n) ⊎ Has n ls

-- what is added at the end is found where it is the seat's first record, and else changes nothing
pub found_last : (n : ℕ) (ls : List LeftSeat) (l : LeftSeat) → (Has n ls → ⊥) → l.seat ≡ n
    → left_trail n (ls ++ l ∷ []) ≡ l.trail
found_last n [] l none is = let t : (l.seat == n) ≡ true = grind (arith, nat_tests) in rw t refl
found_last n (x ∷ ls) l none is =
    let t : (x.seat == n) ≡ false = let ne : x.seat ≢ n = λ e. none (inl e) in grind (arith, nat_tests) in
    rw t (found_last n ls l (λ h. none (inr h)) is)

pub found_still : (n : ℕ) (ls : List LeftSeat) (l : LeftSeat) → l.seat ≢ n
    → left_trail n (ls ++ l ∷ []) ≡ left_trail n ls
found_still n [] l ne = let t : (l.seat == n) ≡ false = grind (arith, nat_tests) in rw t refl
found_still n (x ∷ ls) l ne = ap (λ (ms : List Move). if x.seat == n then x.trail else ms)
    (found_still n ls l ne)

pub has_more : (n : ℕ) (ls : List LeftSeat) (l : LeftSeat) → Has n (ls ++ l ∷ [])
    → Has n ls ⊎ (l.seat ≡ n)
has_more n [] l (inl e) = inr e
has_more n [] l (inr h) = absurd h
has_more n (x ∷ ls) l (inl e) = inl (inl e)
has_more n (x ∷ ls) l (inr h) = ⊎_elim (λ a. inl (inr a)) inr (has_more n ls l h)
