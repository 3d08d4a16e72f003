-- Tickets that stand once grant no more than all grants make.
use Rattle.std.proofs.Common.{◌≡◌, ◌≢◌, ⊎_elim, ℕ, zero, suc, ◌+◌, ◌<◌, ◌≤◌, List, [], ◌∷◌, length, sum, refl, arith}
use Rattle.std.specs.Prelude.{◌==◌, cond, if◌then◌else◌, nat_lt, slice_index_or}
use Rattle.std.proofs.lemmas.List.Sums.{sum_by-cons}
use Rattle.std.proofs.lemmas.Bool.{cases_eq}
use Rattle.std.proofs.lemmas.Bool.Decides.{nat_tests}
use Rattle.core_law.specs.core_events.declared.shape.Shape.{Shape}
use Rattle.core_law.specs.core_events.Views.{granted}
use Rattle.core_law.specs.core_events.Runs.{Core, view_at}
use Rattle.core_law.specs.core_events.Counts.{number_times, ticket_times, tickets_drawn}
use Rattle.core_law.specs.core_events.Good.{TicketLaw}
use Rattle.core_law.proofs.Kit.{total_at}

-- 1 where they are the same ticket
unfoldable same_one : ℕ → ℕ → ℕ
same_one t x = if x == t then 1 else 0

number_none : (t : ℕ) → number_times t [] ≡ 0
unfolding number_times
number_none t = refl

number_cons : (t x : ℕ) (xs : List ℕ) → number_times t (x ∷ xs) ≡ same_one t x + number_times t xs
unfolding number_times same_one
number_cons t x xs = sum_by-cons (λ (y : ℕ). cond (y == t) 1 0) x xs

same_yes : (t x : ℕ) → x ≡ t → same_one t x ≡ 1
unfolding same_one
same_yes t x e = grind (arith, nat_tests)

same_no : (t x : ℕ) → x ≢ t → same_one t x ≡ 0
unfolding same_one
same_no t x e = grind (arith, nat_tests)

same_down : (t x : ℕ) → same_one (suc t) (suc x) ≡ same_one t x
same_down t x = ⊎_elim
    (λ (e : x ≡ t).
    let a = same_yes t x e in let b = same_yes (suc t) (suc x) (omega arith) in omega arith)
    (λ (e : x ≢ t).
    let a = same_no t x e in let b = same_no (suc t) (suc x) (omega arith) in omega arith)
    (cases_eq x t)

granted_cons : (gs : List ℕ) (t : ℕ) (ts : List ℕ)
    → granted gs (t ∷ ts) ≡ slice_index_or gs t 0 + granted gs ts
granted_cons gs t ts = sum_by-cons (λ x. slice_index_or gs x 0) t ts

-- the tickets other than 0, each one less
abbrev down : List ℕ → List ℕ
down [] = []
down (zero ∷ ts) = down ts
down (suc t ∷ ts) = t ∷ down ts

down_times : (t : ℕ) (ts : List ℕ) → number_times t (down ts) ≡ number_times (suc t) ts
down_times t [] = let a = number_none t in let b = number_none (suc t) in omega arith
down_times t (zero ∷ ts) =
    let a = number_cons (suc t) 0 ts in
    let b = same_no (suc t) 0 (omega arith) in let r = down_times t ts in omega arith
down_times t (suc x ∷ ts) =
    let a = number_cons (suc t) (suc x) ts in
    let b = number_cons t x (down ts) in
    let o = same_down t x in let r = down_times t ts in omega arith

none_granted : (ts : List ℕ) → granted [] ts ≡ 0
none_granted [] = refl
none_granted (t ∷ ts) = let c = granted_cons [] t ts in let r = none_granted ts in omega arith

-- without ticket 0 the first grant is nobody's
first_unused : (g : ℕ) (gs ts : List ℕ) → number_times 0 ts ≡ 0
    → granted (g ∷ gs) ts ≡ granted gs (down ts)
first_unused g gs [] h = refl
first_unused g gs (zero ∷ ts) h =
    let a = number_cons 0 0 ts in let o = same_yes 0 0 refl in absurd (omega arith)
first_unused g gs (suc t ∷ ts) h =
    let a = number_cons 0 (suc t) ts in
    let o = same_no 0 (suc t) (omega arith) in
    let c = granted_cons (g ∷ gs) (suc t) ts in
    let d = granted_cons gs t (down ts) in
    let r = first_unused g gs ts (omega arith) in omega arith

-- and with one it counts once
first_used : (g : ℕ) (gs ts : List ℕ) → number_times 0 ts ≤ 1
    → granted (g ∷ gs) ts ≤ g + granted gs (down ts)
first_used g gs [] h = omega arith
first_used g gs (zero ∷ ts) h =
    let a = number_cons 0 0 ts in
    let o = same_yes 0 0 refl in
    let c = granted_cons (g ∷ gs) 0 ts in
    let r = first_unused g gs ts (omega arith) in omega arith
first_used g gs (suc t ∷ ts) h =
    let a = number_cons 0 (suc t) ts in
    let o = same_no 0 (suc t) (omega arith) in
    let c = granted_cons (g ∷ gs) (suc t) ts in
    let d = granted_cons gs t (down ts) in
    let r = first_used g gs ts (omega arith) in omega arith

granted_most : (gs ts : List ℕ) → ((t : ℕ) → number_times t ts ≤ 1) → granted gs ts ≤ sum gs
granted_most [] ts once = let n = none_granted ts in omega arith
granted_most (g ∷ gs) ts once =
    let u = first_used g gs ts (once 0) in
    let less : (t : ℕ) → number_times t (down ts) ≤ 1 =
    λ t. let d = down_times t ts in let o = once (suc t) in omega arith in
    let r = granted_most gs (down ts) less in
    let s = sum_by-cons (λ (x : ℕ). x) g gs in omega arith

-- a seat's own tickets stand once
pub seat_granted : (z : Shape) (c : Core) (n : ℕ) → TicketLaw z c → n < length c.views
    → granted (view_at c n).grants (view_at c n).tickets ≤ sum (view_at c n).grants
seat_granted z c n law there =
    granted_most (view_at c n).grants (view_at c n).tickets (λ t.
    let each = law.each t in
    let at = total_at (ticket_times t) c.views n there in
    let most : (if nat_lt t (tickets_drawn z c) then 1 else 0) ≤ 1 = grind (arith, nat_tests) in
    omega arith)
