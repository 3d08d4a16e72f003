-- What becomes ripe, by numbers.
use Rattle.std.proofs.Common.{◌≡◌, ◌≢◌, ◌⊎◌, inl, inr, ⊎_elim, ◌+◌, ◌<◌, Bool, true, false, List, [], ◌∷◌, refl, ap, sym, ◌∙◌, arith}
use Rattle.std.specs.Prelude.{if◌then◌else◌}
use Rattle.std.specs.List.{filter}
use Rattle.std.proofs.lemmas.Bool.Decides.{nat_tests}
use Rattle.core_events.specs.plain_state.declared.slot.Kind.TheVariants.{Disposal}
use Rattle.core_events.specs.plain_state.declared.slot.SlotId.{SlotId}
use Rattle.core_events.specs.plain_state.Lists.{times}
use Rattle.core_events.specs.plain_state.Ejection.{Announcements, ripens, ripened}
use Rattle.core_events.specs.Counts.{one}
use Rattle.core_law.proofs.Kit.{slot_cases, one_other, times_none, times_cons, times_append}

-- a test of slots leaves all of a slot, or none
times_filter : (f : SlotId → Bool) (s : SlotId) (xs : List SlotId)
    → times s (filter f xs) ≡ (if f s then times s xs else 0)
times_filter f s [] = let z = times_none s in let n = nothing (f s) in z ∙ sym n
  where
    nothing : (b : Bool) → (if b then times s [] else 0) ≡ 0
    nothing true = times_none s
    nothing false = refl
times_filter f s (x ∷ xs) = ⊎_elim
    (λ (e : x ≡ s). here (f s) (f x) (ap f e) (ap (one s) e) (times_filter f s xs))
    (λ (ne : x.0 ≢ s.0). there (f s) (f x) (one_other s x ne) (times_filter f s xs))
    (slot_cases x s)
  where
    here : (b d : Bool) → d ≡ b → one s x ≡ one s s
        → times s (filter f xs) ≡ (if b then times s xs else 0)
        → times s (if d then x ∷ filter f xs else filter f xs)
        ≡ (if b then times s (x ∷ xs) else 0)
    here true true e o ih =
        let a = times_cons s x (filter f xs) in let c = times_cons s x xs in omega arith
    here true false e o ih = cc (e)
    here false true e o ih = cc (e)
    here false false e o ih = ih

    there : (b d : Bool) → one s x ≡ 0
        → times s (filter f xs) ≡ (if b then times s xs else 0)
        → times s (if d then x ∷ filter f xs else filter f xs)
        ≡ (if b then times s (x ∷ xs) else 0)
    there true true o ih =
        let a = times_cons s x (filter f xs) in let c = times_cons s x xs in omega arith
    there true false o ih = let c = times_cons s x xs in omega arith
    there false true o ih = let a = times_cons s x (filter f xs) in omega arith
    there false false o ih = ih

-- what becomes ripe
pub ripened_times : (s : SlotId) (ripe dying : List SlotId) (seen : Announcements)
    → times s (ripened ripe dying seen)
    ≡ times s ripe + (if ripens ripe seen s then times s dying else 0)
ripened_times s ripe dying seen =
    let a = times_append s ripe (filter (ripens ripe seen) dying) in
    let f = times_filter (ripens ripe seen) s dying in omega arith

-- a slot that is ripe, or is announced for disposal, doesn't become ripe
pub ripens_not : (s : SlotId) (ripe : List SlotId) (seen : Announcements)
    → (0 < times s ripe) ⊎ (0 < seen Disposal s) → ripens ripe seen s ≡ false
ripens_not s ripe seen (inl h) = grind (arith, nat_tests)
ripens_not s ripe seen (inr h) = grind (arith, nat_tests)
