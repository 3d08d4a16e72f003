-- The payloads of all objects fit, where a slot is written.
use Rattle.std.proofs.Common.{◌≡◌, ◌≢◌, ◌⊎◌, ⊎_elim, ℕ, ◌<◌, List, length, get_or, sym, subst}
use Rattle.std.specs.Prelude.{slice_set}
use Rattle.std.proofs.lemmas.List.{get_or-set_same, get_or-set_other, set_past}
use Rattle.std.proofs.lemmas.Bool.{cases_lt}
use Rattle.plain_state.specs.declared.slot.PlainSlot.{PlainSlot}
use Rattle.plain_state.specs.declared.slot.SlotId.{SlotId}
use Rattle.plain_state.specs.declared.slot.Stage.TheVariants.{Live, Ended}
use Rattle.plain_state.specs.State.{Plain, new_slot, with_slot}
use Rattle.plain_state.specs.Fits.{AllFit}
use Rattle.plain_state.proofs.Kit.{cases_slot}

-- a slot's payload fits where it has an object
abbrev pub Fits : (List ℕ → Type 0) → PlainSlot → Type 0
Fits fits x = (x.stage ≡ Live) ⊎ (x.stage ≡ Ended) → fits x.payload

-- one slot is written
pub slot_fits : (fits : List ℕ → Type 0) (p : Plain) (x : SlotId) (y : PlainSlot) → AllFit fits p
    → Fits fits y → AllFit fits (with_slot p x y)
slot_fits fits p x y all fit s =
    ⊎_elim
    (λ (below : x.0 < length p.slots).
    ⊎_elim
    (λ (same : s ≡ x).
    subst (λ (z : SlotId). Fits fits (get_or (slice_set p.slots x.0 y) z.0 new_slot)) (sym same)
    (rw (get_or-set_same p.slots x.0 y new_slot below) fit))
    (λ (ne : s.0 ≢ x.0). rw (get_or-set_other p.slots x.0 s.0 y new_slot ne) (all s))
    (cases_slot s x))
    (λ past. rw (set_past p.slots x.0 y past) (all s))
    (cases_lt x.0 (length p.slots))
