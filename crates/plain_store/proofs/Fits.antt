-- The payloads of all objects fit, after a step.
use Rattle.std.proofs.Common.{◌≡◌, ℕ, List, get_or, sym, subst}
use Rattle.std.specs.Prelude.{slice_set, Result, Ok, Err, IfOk, OnErr}
use Rattle.plain_state.specs.declared.slot.PlainSlot.{PlainSlot}
use Rattle.plain_state.specs.declared.slot.SlotId.{SlotId}
use Rattle.plain_state.specs.State.{Plain, new_slot, slot_at}
use Rattle.plain_store.specs.declared.refusal.MakeRefused.{MakeRefused}
use Rattle.plain_state.specs.Fits.{AllFit}
use Rattle.plain_state.proofs.Fitting.{Fits, slot_fits}
use Rattle.plain_store.specs.Heaps.{made_slot}

-- one slot is written
pub fit_set : (fits : List ℕ → Type 0) (p q : Plain) (x : SlotId) (y : PlainSlot) → AllFit fits p
    → q.slots ≡ slice_set p.slots x.0 y → Fits fits y → AllFit fits q
fit_set fits p q x y all e fit s =
    subst (λ (l : List PlainSlot). Fits fits (get_or l s.0 new_slot)) (sym e) (slot_fits fits p x y all fit s)

-- no slot is written
pub fit_same : (fits : List ℕ → Type 0) (p q : Plain) → q.slots ≡ p.slots → AllFit fits p → AllFit fits q
fit_same fits p q e all s = subst (λ (l : List PlainSlot). Fits fits (get_or l s.0 new_slot)) (sym e) (all s)

-- an object is made, or the make is refused
pub fit_made : (fits : List ℕ → Type 0) (p q : Plain) (payload : List ℕ) (r : Result SlotId MakeRefused) → AllFit fits p → fits payload
    → IfOk r (λ s. q.slots ≡ slice_set p.slots s.0 (made_slot (slot_at p s) payload)) → OnErr r (q ≡ p) → AllFit fits q
fit_made fits p q payload (Ok s) all fit e same = fit_set fits p q s (made_slot (slot_at p s) payload) all e (λ _. fit)
fit_made fits p q payload (Err refused) all fit e same = subst (AllFit fits) (sym same) all
