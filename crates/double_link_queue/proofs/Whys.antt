-- What follows for what a call answers.
use Rattle.std.specs.Prelude.{Err, IfOk, IfSome, Ok, OnErr, Option, Result, Some, None}
use Rattle.weak_part_calls.specs.plain_state.declared.slot.SlotId.{SlotId}
use Rattle.weak_part_calls.specs.counted_handles.Handles.{Handle}

-- what follows for each slot that was found follows for an answer
pub found_then : {E : Type 0} (P Q : SlotId → Type 0) (r : Result (Option Handle) E)
    → ((s : SlotId) → P s → Q s) → IfOk r (λ found. IfSome found (λ h. P h.slot))
    → IfOk r (λ found. IfSome found (λ h. Q h.slot))
found_then P Q (Ok None) follows p = tt
found_then P Q (Ok (Some h)) follows p = follows h.slot p
found_then P Q (Err e) follows p = tt

-- what follows where a call was refused
pub on_err : {T E : Type 0} (P Q : Type 0) (r : Result T E) → (P → Q) → OnErr r P → OnErr r Q
on_err P Q (Ok x) follows p = tt
on_err P Q (Err e) follows p = follows p
