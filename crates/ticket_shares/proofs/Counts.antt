-- Lists of numbers in which each number stands equally often add up to the same.
use Rattle.std.specs.Prelude.{cond, ◌==◌}
use Rattle.std.specs.List.{count_by, sum_by}
use Rattle.std.proofs.Common.{◌≡◌, ⊎_elim, ℕ, suc, ◌+◌, ◌<◌, Bool, List, [], ◌∷◌, ◌++◌, refl, sym, ap, arith}
use Rattle.std.proofs.lemmas.Bool.{cases_eq, eq-eqb, ne_eqb}
use Rattle.std.proofs.lemmas.List.Sums.{sum_by-append, sum_by-cons}
use Rattle.ticket_shares.specs.Tickets.{ticket_times}

pub times_cons : (t u : ℕ) (ts : List ℕ)
    → ticket_times t (u ∷ ts) ≡ cond (t == u) 1 0 + ticket_times t ts
times_cons t u ts = sum_by-cons (λ v. cond (t == v) 1 0) u ts

pub one_if : (t u : ℕ) → t ≡ u → cond {A = ℕ} (t == u) 1 0 ≡ 1
one_if t u e = ap {B = ℕ} (λ (b : Bool). cond b 1 0) (eq-eqb t u e)

pub none_if : (t u : ℕ) → (t ≡ u → ⊥) → cond {A = ℕ} (t == u) 1 0 ≡ 0
none_if t u e = ap {B = ℕ} (λ (b : Bool). cond b 1 0) (ne_eqb t u e)

pub times_self : (t : ℕ) (ts : List ℕ) → ticket_times t (t ∷ ts) ≡ suc (ticket_times t ts)
times_self t ts =
    let a = times_cons t t ts in
    let b = one_if t t refl in omega arith

pub times_append : (t : ℕ) (ts us : List ℕ)
    → ticket_times t (ts ++ us) ≡ ticket_times t ts + ticket_times t us
times_append t ts us = sum_by-append (λ v. cond (t == v) 1 0) ts us

-- what stands before a number of a list, and what after
split_at : (t : ℕ) (ts : List ℕ) → 0 < ticket_times t ts
    → (front : List ℕ) × (back : List ℕ) × (ts ≡ front ++ t ∷ back)
split_at t [] some = absurd (omega arith)
split_at t (u ∷ ts) some = ⊎_elim
    (λ (e : t ≡ u). ([], ts, ap (λ z. z ∷ ts) (sym e)))
    (λ (e : t ≡ u → ⊥).
    let a = times_cons t u ts in
    let b = none_if t u e in
    let s = split_at t ts (omega arith) in
    (u ∷ s.0, s.1, ap (λ l. u ∷ l) s.2))
    (cases_eq t u)

pub same_sums : (ts us : List ℕ) → ((t : ℕ) → ticket_times t ts ≡ ticket_times t us)
    → (f : ℕ → ℕ) → sum_by f ts ≡ sum_by f us
same_sums [] [] same f = refl
same_sums [] (u ∷ us) same f =
    let a = same u in let b = times_self u us in absurd (omega arith)
same_sums (t ∷ ts) us same f =
    let some = times_self t ts in
    let e = same t in
    let s = split_at t us (omega arith) in
    let rest : (z : ℕ) → ticket_times z ts ≡ ticket_times z (s.0 ++ s.1) = λ z.
    let a = times_cons z t ts in
    let b = times_cons z t s.1 in
    let c = times_append z s.0 (t ∷ s.1) in
    let d = times_append z s.0 s.1 in
    let f = ap (ticket_times z) s.2 in
    let g = same z in omega arith in
    let i = same_sums ts (s.0 ++ s.1) rest f in
    let a = sum_by-cons f t ts in
    let b = sum_by-cons f t s.1 in
    let c = sum_by-append f s.0 (t ∷ s.1) in
    let d = sum_by-append f s.0 s.1 in
    let g = ap (sum_by f) s.2 in omega arith
