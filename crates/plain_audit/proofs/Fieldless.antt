-- Where all fields are null each Live slot is a root, so nothing is unreached.
use Rattle.std.proofs.Common.{◌≡◌, ℕ, suc, ◌<◌, List, [], ◌∷◌, length, get_or, All, sum_by, refl, ap, arith, inl}
use Rattle.std.proofs.lemmas.List.Sums.{sum_by-cons}
use Rattle.heap_audit.specs.plain_state.declared.slot.SlotId.{SlotId}
use Rattle.heap_audit.specs.plain_state.declared.slot.PlainSlot.{PlainSlot}
use Rattle.heap_audit.specs.plain_state.Lawful.{HasNullFields}
use Rattle.heap_audit.specs.plain_state.State.{Plain, new_slot}
use Rattle.heap_audit.specs.plain_state.References.{held_in, over_slots, strong_fields, strong_refs}
use Rattle.heap_audit.proofs.Below.plain_state_Kit.{held_none}
use Rattle.cdrc_plain.specs.plain_store.Settling.{IsSettled}
use Rattle.heap_audit.specs.Heaps.{slot}
use Rattle.heap_audit.specs.Reached.{HowMany}
use Rattle.heap_audit.proofs.Leasts.{many_none}
use Rattle.plain_audit.specs.Reached.{IsRoot, IsUnreached}

null_fields : (s : SlotId) (x : PlainSlot) → HasNullFields x → strong_fields s x ≡ 0
null_fields s x (first, second, weak) =
    omega (arith, ap (held_in s) first, ap (held_in s) second, held_none s)

no_fields : (s : SlotId) (xs : List PlainSlot) → ((k : ℕ) → k < length xs → HasNullFields (get_or xs k new_slot)) → over_slots (strong_fields s) xs ≡ 0
unfolding over_slots
no_fields s [] each = refl
no_fields s (x ∷ xs) each =
    let rest : sum_by (strong_fields s) xs ≡ 0 = no_fields s xs (λ k lt. each (suc k) (omega (arith, lt))) in
    omega (arith, sum_by-cons (strong_fields s) x xs, null_fields s x (each 0 (omega arith)), rest)

pub none_unreached : (p : Plain) → IsSettled p → All HasNullFields p.slots → (s : SlotId) → IsUnreached p s → ⊥
none_unreached p settled null s un =
    let fields = no_fields s p.slots (λ k lt. null k new_slot lt) in
    let some : 0 < strong_refs p s = settled.ended s un.0 in
    let root : IsRoot p s = omega (arith, some, fields) in
    un.1 (s, root, inl refl)

-- so none is counted
pub none_cyclic : (p : Plain) (many : ℕ) → IsSettled p → All HasNullFields p.slots → HowMany (λ n. IsUnreached p (slot n)) (length p.slots) many → many ≡ 0
none_cyclic p many settled null h =
    many_none (λ n. IsUnreached p (slot n)) (length p.slots) many (λ k. none_unreached p settled null (slot k)) h
