-- A list that loses one entry, by the place where it stands.
use Rattle.std.proofs.Common.{◌≡◌, ◌≢◌, ◌<◌, ◌+◌, ◌++◌, ◌∷◌, ℕ, List, length, get_or, take, drop, ap, sym, ◌∙◌, arith, drop-cons, add-one}
use Rattle.std.proofs.lemmas.List.{take-append-drop, drop_all}
use Rattle.plain_state.specs.declared.slot.SlotId.{SlotId}
use Rattle.plain_state.specs.Lists.{times, Loses}
use Rattle.plain_state.proofs.Kit.{held_other, times_none, times_cons}

pub loses_at : {A : Type 0} (xs ys : List A) (i : ℕ) (x d : A) → i < length xs → get_or xs i d ≡ x → ys ≡ take i xs ++ drop (i + 1) xs → Loses xs x ys
loses_at {A} xs ys i x d lt e f =
    let g : xs ≡ take i xs ++ x ∷ drop (i + 1) xs = sym (take-append-drop i xs) ∙ ap (λ (r : List A). take i xs ++ r) (rw (add-one) (drop-cons xs i d lt) ∙ ap (λ (y : A). y ∷ drop (i + 1) xs) e) in
    (take i xs, drop (i + 1) xs, g, f)

-- none in the end of a list, and none before it
pub none_more : (s x : SlotId) (xs : List SlotId) (i j : ℕ) → i + 1 ≡ j → times s (drop j xs) ≡ 0 → i < length xs → (get_or xs i x).0 ≢ s.0
    → times s (drop i xs) ≡ 0
none_more s x xs i j is e lt ne =
    let split : drop i xs ≡ get_or xs i x ∷ drop (i + 1) xs = rw add-one (drop-cons xs i x lt) in
    let rest : times s (drop (i + 1) xs) ≡ 0 = ap (λ (k : ℕ). times s (drop k xs)) is ∙ e in
    ap (times s) split ∙ times_cons s (get_or xs i x) (drop (i + 1) xs) ∙ omega (arith, held_other s (get_or xs i x) ne)

pub none_yet : (s : SlotId) (xs : List SlotId) → times s (drop (length xs) xs) ≡ 0
none_yet s xs = ap (times s) (drop_all (length xs) xs (omega arith)) ∙ times_none s
