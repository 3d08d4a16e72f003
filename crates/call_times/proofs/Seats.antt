-- The jobs that are made of some seats.
use Rattle.std.proofs.Common.{Bool, Ok, Result, false, true, ℕ, zero, suc, ◌≡◌, ◌<◌, ◌++◌, List, [], ◌∷◌, Option, Some, None, length, map, refl, sym, subst, arith}
use Rattle.std.specs.Prelude.{IfSome, slice_index_or}
use Rattle.std.proofs.lemmas.List.{length-append, length-map}

-- what holds of each seat holds of the seat of each job
pub each_job : {T : Type 0} (P : T → Type 0) (seats : List T)
    → ((i : ℕ) (x : T) → i < length seats → x ≡ slice_index_or seats i x → P x)
    → (i : ℕ) (x : Option T) → i < length (map (λ (seat : T). Some seat) seats ++ None ∷ [])
    → x ≡ slice_index_or (map (λ (seat : T). Some seat) seats ++ None ∷ []) i x → IfSome x P
each_job P [] each zero x low is = subst (λ o. IfSome o P) (sym is) tt
each_job P [] each (suc i) x low is = absurd (omega (arith, low))
each_job P (s ∷ ss) each zero x low is =
    subst (λ o. IfSome o P) (sym is) (each 0 s (omega arith) refl)
each_job P (s ∷ ss) each (suc i) x low is =
    each_job P ss (λ j y under at. each (suc j) y (omega (arith, under)) at) i x (omega (arith, low)) is

-- and what holds of the seat of each job holds of each seat
pub each_seat : {T : Type 0} (P : T → Type 0) (seats : List T) (i : ℕ) → i < length seats
    → (job : Option T)
    → ((d : Option T) → slice_index_or (map (λ (seat : T). Some seat) seats ++ None ∷ []) i d ≡ job)
    → IfSome job P → (seat : T) × ((d : T) → slice_index_or seats i d ≡ seat) × P seat
each_seat P [] i low job is some = absurd (omega (arith, low))
each_seat P (s ∷ ss) zero low job is some =
    (s, λ d. refl, subst (λ o. IfSome o P) (sym (is None)) some)
each_seat P (s ∷ ss) (suc i) low job is some = each_seat P ss i (omega (arith, low)) job is some

-- there is a job for each seat
pub job_there : {T : Type 0} (seats : List T) (i : ℕ) → i < length seats
    → i < length (map (λ (seat : T). Some seat) seats ++ None ∷ [])
job_there {T = T} seats i low =
    let all = length-append (map (λ (seat : T). Some seat) seats) (None ∷ []) in
    let each = length-map seats (λ (seat : T). Some seat) in omega (arith, low, all, each)

-- an answer that is true
pub ok_true : {E : Type 0} (b : Bool) → ◌≡◌ {A = Result Bool E} (Ok b) (Ok true) → b ≡ true
ok_true true e = refl
ok_true false e = absurd cc
