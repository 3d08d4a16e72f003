-- Slots by their numbers, and sums over views.
use Rattle.std.proofs.Common.{refl, Bool, ◌≡◌, ◌≢◌, ◌⊎◌, inl, inr, ⊎_elim, ℕ, ◌+◌, ◌<◌, ◌≤◌, true, false, List, length, get_or, set, ap, sym, ◌∙◌, subst, arith}
use Rattle.std.specs.Prelude.{Some, None}
use Rattle.std.proofs.lemmas.List.{length-set, get_or-set_same, get_or-set_other}
use Rattle.std.proofs.lemmas.List.Sums.{sum_by-set, get_or-le-sum_by}
use Rattle.std.proofs.lemmas.Bool.{cases_eq}
use Rattle.plain_protocol.specs.plain_state.declared.slot.SlotId.{SlotId}
use Rattle.plain_protocol.proofs.Below.plain_state_Kit.{cases_slot}
use Rattle.directory_law.specs.Views.{View, gone, view_at, total}

pub cases_id : (s r : SlotId) → (s ≡ r) ⊎ (s ≢ r)
cases_id s r = ⊎_elim (λ (e : s ≡ r). inl e)
    (λ (ne : s.0 ≢ r.0). inr (λ e. ne (ap (λ (x : SlotId). x.0) e))) (cases_slot s r)

pub number_other : (s r : SlotId) → s ≢ r → s.0 ≢ r.0
number_other s r other = ⊎_elim (λ (e : s ≡ r). absurd (other e)) (λ (ne : s.0 ≢ r.0). ne)
    (cases_slot s r)

pub number_same : (s r : SlotId) → s.0 ≡ r.0 → s ≡ r
number_same s r same = ⊎_elim (λ (e : s ≡ r). e) (λ (ne : s.0 ≢ r.0). absurd (ne same))
    (cases_slot s r)

pub some_same : (a b : SlotId) → Some a ≡ Some b → a ≡ b
some_same a b e = cc

pub none_some : (a : SlotId) → None ≡ Some a → ⊥
none_some a e = cc

pub false≢true : false ≡ true → ⊥
false≢true e = cc

pub total_set : (f : View → ℕ) (vs : List View) (n : ℕ) (v : View) → n < length vs
    → total f (set vs n v) + f (get_or vs n gone) ≡ total f vs + f v
unfolding total
total_set f vs n v h = sum_by-set f vs n v gone h

pub total_at : (f : View → ℕ) (vs : List View) (n : ℕ) → n < length vs
    → f (get_or vs n gone) ≤ total f vs
unfolding total
total_at f vs n h = get_or-le-sum_by f vs n gone h

-- of two views
pub total_both : (f : View → ℕ) (vs : List View) (n m : ℕ) → f gone ≡ 0 → n < length vs
    → m < length vs → m ≢ n → f (view_at vs n) + f (view_at vs m) ≤ total f vs
total_both f vs n m none hn hm ne =
    let a = total_set f vs n gone hn in
    let l = length-set vs n gone in
    let b = total_at f (set vs n gone) m (omega arith) in
    let c = ap f (get_or-set_other vs n m gone gone ne) in omega arith

-- what holds of each view after one has changed
pub at_view : (views : List View) (n : ℕ) (w : View) (P : View → Type 0) → n < length views → P w
    → ((m : ℕ) → m ≢ n → P (view_at views m)) → (m : ℕ) → P (view_at (set views n w) m)
at_view views n w P here new old m =
    ⊎_elim
    (λ (e : m ≡ n). subst P (sym (ap (λ (j : ℕ). view_at (set views n w) j) e
    ∙ get_or-set_same views n w gone here)) new)
    (λ (ne : m ≢ n). subst P (sym (get_or-set_other views n m w gone ne)) (old m ne))
    (cases_eq m n)

pub cases_pair : (a b : SlotId) (c d : ℕ) → ((a ≡ b) × (c ≡ d)) ⊎ ((a ≡ b) × (c ≡ d) → ⊥)
cases_pair a b c d =
    ⊎_elim
    (λ (e : a ≡ b). ⊎_elim (λ (f : c ≡ d). inl (e, f)) (λ (ne : c ≢ d). inr (λ p. ne p.1))
    (cases_eq c d))
    (λ (ne : a ≢ b). inr (λ p. ne p.0))
    (cases_id a b)

pub not_false : (b : Bool) → b ≢ true → b ≡ false
not_false true h = absurd (h refl)
not_false false h = refl
