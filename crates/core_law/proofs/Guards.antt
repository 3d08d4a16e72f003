-- What the retired entries of a seat guard, as its scan goes on.
use Rattle.std.proofs.Common.{◌≡◌, ◌⊎◌, inl, inr, ⊎_elim, ℕ, ◌≤◌, true, false, List, [], ◌∷◌, ◌++◌, length, refl, sym, ◌∙◌, arith, length-append}
use Rattle.std.specs.Prelude.{slice_index}
use Rattle.std.proofs.lemmas.List.{get_or_append_left, get_or_at}
use Rattle.std.proofs.lemmas.Bool.{cases_eq, cases_lt}
use Rattle.std.proofs.lemmas.Bool.Decides.{nat_tests}
use Rattle.core_events.specs.plain_state.declared.slot.Kind.{Kind}
use Rattle.core_events.specs.plain_state.declared.slot.Kind.TheVariants.{Strong, Weak, Disposal}
use Rattle.core_events.specs.plain_state.declared.slot.SlotId.{SlotId}
use Rattle.core_events.specs.declared.view.CoreView.{CoreView}
use Rattle.core_events.specs.announce_slots.Words.{code}
use Rattle.core_events.specs.Counts.{guarding, has_passed, waiting}

-- what is read past a is not passed
pub not_passed : (a w : ℕ) (seen : List ℕ) → length seen ≤ a → has_passed a w seen ≡ false
not_passed a w seen le = grind (arith, nat_tests)

same_not_passed : (a w : ℕ) (seen : List ℕ) → slice_index seen a ≡ w → has_passed a w seen ≡ false
same_not_passed a w seen e = grind (arith, nat_tests)

pub passed_cases : (a w : ℕ) (seen : List ℕ)
    → (has_passed a w seen ≡ true)
    ⊎ ((has_passed a w seen ≡ false) × ((length seen ≤ a) ⊎ (slice_index seen a ≡ w)))
passed_cases a w seen = ⊎_elim
    (λ lt. ⊎_elim
    (λ e. inr (same_not_passed a w seen e, inr e))
    (λ ne. inl (grind (arith, nat_tests)))
    (cases_eq (slice_index seen a) w))
    (λ le. inr (not_passed a w seen le, inl le))
    (cases_lt a (length seen))

-- one more word is read: what it passes, it finds another word at
pub read_passed : (a w x : ℕ) (seen : List ℕ) → (a ≡ length seen → x ≡ w)
    → has_passed a w (seen ++ x ∷ []) ≡ has_passed a w seen
read_passed a w x seen here = ⊎_elim
    (λ lt.
    let e = get_or_append_left seen (x ∷ []) 0 a lt in
    let l = length-append seen (x ∷ []) in grind (arith, nat_tests))
    (λ le. ⊎_elim
    (λ same. same_not_passed a w (seen ++ x ∷ []) (get_or_at seen x [] 0 a (sym same) ∙ here same)
    ∙ sym (not_passed a w seen le))
    (λ ne.
    let l = length-append seen (x ∷ []) in
    not_passed a w (seen ++ x ∷ []) (omega arith) ∙ sym (not_passed a w seen le))
    (cases_eq a (length seen)))
    (cases_lt a (length seen))

-- a guard, by cases
pub guards_passed : (a : ℕ) (k : Kind) (s : SlotId) (v : CoreView) → has_passed a (code k s) v.seen
    ≡ true
    → guarding a k s v ≡ 0
guards_passed a k s v e = rw e refl

pub guards_open : (a : ℕ) (k : Kind) (s : SlotId) (v : CoreView) → has_passed a (code k s) v.seen
    ≡ false
    → guarding a k s v ≡ waiting k s v
guards_open a k s v e = rw e refl

-- a seat that has seen nothing guards all that it has retired
pub guards_all : (a : ℕ) (k : Kind) (s : SlotId) (v : CoreView) → v.seen ≡ []
    → guarding a k s v ≡ waiting k s v
guards_all a k s v e = guards_open a k s v (rw e (not_passed a (code k s) [] (omega arith)))

-- the same retired entries, the same dying list and the same scan guard the same
pub guards_same : (a : ℕ) (k : Kind) (s : SlotId) (v u : CoreView) → u.retired ≡ v.retired
    → u.dying ≡ v.dying → u.seen ≡ v.seen → guarding a k s u ≡ guarding a k s v
guards_same a Strong s v u retired dying seen = rw (retired, seen) refl
guards_same a Weak s v u retired dying seen = rw (retired, seen) refl
guards_same a Disposal s v u retired dying seen = rw (dying, seen) refl
