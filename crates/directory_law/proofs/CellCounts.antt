-- How many cells are set.
use Rattle.std.proofs.Common.{◌≡◌, ◌≢◌, ⊎_elim, ℕ, zero, suc, ◌+◌, ◌<◌, ◌≤◌, refl, ap, arith}
use Rattle.std.specs.Prelude.{Option, Some, None}
use Rattle.std.proofs.lemmas.Bool.{cases_eq}
use Rattle.plain_protocol.specs.plain_state.declared.slot.SlotId.{SlotId}
use Rattle.plain_protocol.specs.plain_state.State.{Plain}
use Rattle.directory_law.specs.Cells.{Area, cell, full, set_cells}

pub same_set : (z : Area) (p q : Plain) (m : ℕ) → ((d : ℕ) → d < m → cell z q d ≡ cell z p d)
    → set_cells z q m ≡ set_cells z p m
same_set z p q zero h = refl
same_set z p q (suc m) h =
    let a : set_cells z q m ≡ set_cells z p m = same_set z p q m (λ d k. h d (omega arith)) in
    let b : full (cell z q m) ≡ full (cell z p m) = ap full (h m (omega arith)) in omega arith

-- all of the first m cells are set
pub all_set : (z : Area) (p : Plain) (m : ℕ) → ((d : ℕ) → d < m → cell z p d ≢ None)
    → set_cells z p m ≡ m
all_set z p zero h = refl
all_set z p (suc m) h =
    let a : set_cells z p m ≡ m = all_set z p m (λ d k. h d (omega arith)) in
    let b : full (cell z p m) ≡ 1 = full_set (cell z p m) (h m (omega arith)) in omega arith
  where
    full_set : (w : Option SlotId) → w ≢ None → full w ≡ 1
    full_set None h = absurd (h refl)
    full_set (Some w) h = refl

full_one : (w : Option SlotId) → full w ≤ 1
full_one None = omega arith
full_one (Some w) = omega arith

-- at most one set cell more, after a write to the cell c
pub set_more : (z : Area) (p q : Plain) (c n : ℕ) → ((d : ℕ) → d ≢ c → cell z q d ≡ cell z p d)
    → set_cells z q n ≤ set_cells z p n + 1
set_more z p q c zero at = omega arith
set_more z p q c (suc n) at =
    ⊎_elim
    (λ (e : n ≡ c).
    let a : set_cells z q n ≡ set_cells z p n =
    same_set z p q n (λ d h. at d (λ f. absurd (omega arith))) in
    let b : full (cell z q n) ≤ 1 = full_one (cell z q n) in omega arith)
    (λ (ne : n ≢ c).
    let a : full (cell z q n) ≡ full (cell z p n) = ap full (at n ne) in
    let i = set_more z p q c n at in omega arith)
    (cases_eq n c)
