-- The slots of some references, as a set.
use Rattle.std.proofs.Common.{◌≡◌, ◌⊎◌, ⊎_elim, ℕ, ◌+◌, ◌<◌, Bool, true, false, List, [], ◌∷◌, ◌++◌, ap, sym, ◌∙◌, add-one, arith, get_or, length, take}
use Rattle.std.specs.Prelude.{◌==◌, cond}
use Rattle.std.proofs.lemmas.Bool.Decides.{nat_tests}
use Rattle.std.proofs.lemmas.List.{map-append}
use Rattle.std.proofs.Math.Seq.{take-suc}
use Rattle.law_lesson.specs.plain_state.declared.slot.SlotId.{SlotId}
use Rattle.law_lesson.specs.plain_state.Lists.{times}
use Rattle.domain_audit.specs.core_events.Counts.{one}
use Rattle.domain_audit.proofs.Below.core_law_Kit.{one_other, one_same, times_none, times_push}
use Rattle.domain_audit.specs.counted_handles.Handles.{Handle}
use Rattle.lane_domain.specs.lane_files.Keeping.{slots_of}
use Rattle.lane_reports.specs.Holders.{AreSlotsOf}

-- the first elements, and one more
pub one_more : {A : Type 0} (xs : List A) (i : ℕ) (x : A) → i < length xs → get_or xs i x ≡ x
    → take (i + 1) xs ≡ take i xs ++ x ∷ []
one_more xs i x below is =
    ap (λ n. take n xs) (add-one i) ∙ take-suc xs i x below ∙ ap (λ y. take i xs ++ y ∷ []) is

marked : (a b : ℕ) (x y : Bool) → y ≡ cond (a == b) true x
    → ((a ≡ b) × (y ≡ true)) ⊎ ((¬ (a ≡ b)) × (y ≡ x))
marked a b x y is = grind (arith, nat_tests)

pub no_slots : (is_held : SlotId → Bool) → ((s : SlotId) → is_held s ≡ false)
    → AreSlotsOf [] is_held
no_slots is_held none s = (
  (λ has. absurd (cc (none s, has))),
  (λ some. let z = times_none s in absurd (omega (arith, some))),
)

-- one reference more
pub slots_more : (kept all : List Handle) (h : Handle) (n : ℕ) (old new : SlotId → Bool)
    → all ≡ kept ++ h ∷ [] → n ≡ h.slot.0 → AreSlotsOf kept old
    → ((s : SlotId) → new s ≡ cond (n == s.0) true (old s)) → AreSlotsOf all new
slots_more kept all h n old new more is so marks s =
    let sum : times s (slots_of all) ≡ times s (slots_of kept) + one s h.slot =
    ap (λ (hs : List Handle). times s (slots_of hs)) more
    ∙ ap (times s) (map-append (λ (k : Handle). k.slot) kept (h ∷ []))
    ∙ times_push s h.slot (slots_of kept) in
    ⊎_elim
    (λ (same : (n ≡ s.0) × (new s ≡ true)).
    let one_more = one_same s h.slot (sym is ∙ same.0) in
    ((λ has. omega (arith, sum, one_more)), (λ some. same.1)))
    (λ (other : (¬ (n ≡ s.0)) × (new s ≡ old s)).
    let none = one_other s h.slot (λ same. other.0 (is ∙ same)) in (
      (λ has. let had = (so s).0 (sym other.1 ∙ has) in omega (arith, sum, had)),
      (λ some. other.1 ∙ (so s).1 (omega (arith, sum, none, some))),
    ))
    (marked n s.0 (old s) (new s) (marks s))
