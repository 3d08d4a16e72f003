-- The seats at the start, one more at a time.
use Rattle.std.proofs.Common.{◌≡◌, ℕ, zero, suc, ◌+◌, ◌<◌, List, [], ◌∷◌, ◌++◌, length, get_or, take, refl, ap, add-zero, add-one, arith}
use Rattle.core_law.specs.core_events.declared.shape.Shape.{Shape}
use Rattle.core_law.specs.core_events.declared.shape.Quota.{Quota}
use Rattle.core_law.specs.core_events.Views.{first_view, first_views}

next_seat : (z : Shape) (n : ℕ) (qs : List Quota) (gs : List ℕ) (i : ℕ) (d : Quota) → i < length qs
    → first_views z n (take (suc i) qs) gs
    ≡ first_views z n (take i qs) gs ++ first_view z (n + i) (get_or qs i d) gs ∷ []
next_seat z n [] gs i d h = absurd (omega arith)
next_seat z n (q ∷ qs) gs zero d h = rw (add-zero n) refl
next_seat z n (q ∷ qs) gs (suc i) d h =
    let e : n + 1 + i ≡ n + suc i = omega arith in
    let r = next_seat z (n + 1) qs gs i d (omega arith) in
    ap (λ vs. first_view z n q gs ∷ vs) (rw e at r)

-- the seat of the next quota comes last
pub more_seats : (z : Shape) (qs : List Quota) (gs : List ℕ) (i : ℕ) (d : Quota) → i < length qs
    → first_views z 0 (take (i + 1) qs) gs
    ≡ first_views z 0 (take i qs) gs ++ first_view z i (get_or qs i d) gs ∷ []
more_seats z qs gs i d h =
    let e : 0 + i ≡ i = omega arith in
    rw (add-one i) (rw e at (next_seat z 0 qs gs i d h))
