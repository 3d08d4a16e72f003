-- What stands in a list is counted in it.
use Rattle.std.proofs.Common.{◌≡◌, ℕ, ◌<◌, List, Option, Some, None, true, length, get_or, refl, ap, ◌∙◌, arith}
use Rattle.std.specs.Prelude.{if◌then◌else◌, ◌↔◌, IsTrue, IfNone, IfSome, is_some}
use Rattle.std.proofs.lemmas.List.Sums.{get_or-le-sum_by}
use Rattle.std.proofs.lemmas.Bool.{eq-eqb}
use Rattle.plain_state.specs.declared.slot.Kind.{Kind}
use Rattle.plain_state.specs.declared.slot.SlotId.{SlotId}
use Rattle.plain_state.specs.Lists.{Entry, is_slot, is_entry, times, entry_times}

pub listed : (s d : SlotId) (xs : List SlotId) (i : ℕ) → i < length xs → is_slot s (get_or xs i d) ≡ true → 0 < times s xs
unfolding times
listed s d xs i lt here = omega (arith, rw here at (get_or-le-sum_by (λ (y : SlotId). if is_slot s y then 1 else 0) xs i d lt))

pub entry_listed : (k : Kind) (s : SlotId) (d : Entry) (es : List Entry) (i : ℕ) → i < length es → is_entry k s (get_or es i d) ≡ true → 0 < entry_times k s es
unfolding entry_times
entry_listed k s d es i lt here = omega (arith, rw here at (get_or-le-sum_by (λ (e : Entry). if is_entry k s e then 1 else 0) es i d lt))

-- a slot stands in a list where a search of it finds it, and only there
pub listed_if : (s : SlotId) (xs : List SlotId) (o : Option ℕ) → IfNone o (times s xs ≡ 0) → IfSome o (λ i. (i < length xs) × (get_or xs i s ≡ s))
    → IsTrue (is_some o) ↔ (0 < times s xs)
listed_if s xs None none found = (λ e. absurd cc, λ some. absurd (omega (arith, some, none)))
listed_if s xs (Some i) none found = (λ e. listed_at found.0 found.1, λ some. refl)
  where
    listed_at : i < length xs → get_or xs i s ≡ s → 0 < times s xs
    listed_at lt here = listed s s xs i lt (ap (is_slot s) here ∙ eq-eqb s.0 s.0 refl)
