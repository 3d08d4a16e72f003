-- The value that a seat's own part tells of a slot.
use Rattle.std.proofs.Common.{◌≡◌, ⊎_elim, ℕ, Bool, true, false, List, [], ◌∷◌, refl, ap, Some, None}
use Rattle.std.specs.Prelude.{Contains, if◌then◌else◌}
use Rattle.std.proofs.lemmas.List.Elements.{Contains-push_cases}
use Rattle.plain_protocol.specs.plain_state.declared.slot.SlotId.{SlotId}
use Rattle.plain_protocol.specs.plain_state.State.{Plain, seat_at, slot_at}
use Rattle.plain_protocol.specs.Owns.{HasSlot, Object, own_part}
use Rattle.protocol_pairs.specs.Spared.{HasOneOf}
use Rattle.protocol_pairs.specs.Values.{value_of}
use Rattle.protocol_pairs.proofs.Held.{has_object}
use Rattle.protocol_pairs.proofs.Notes.{none_in}

-- it is the object's, if the seat has that
pub value_in : (b : Bool) (o : Object) (value : List ℕ)
    → Contains (value_of (if b then Some o else None)) value → o.payload ≡ value
value_in true o value has = ⊎_elim (λ none. absurd (none_in value none)) (λ is. is)
    (Contains-push_cases [] o.payload value has)
value_in false o value has = absurd (none_in value has)

-- and has the payload that the seat knows it to have
pub one_of_value : (kind : List ℕ → Type 0) (b : Bool) (o : Object)
    → HasOneOf kind (if b then Some o else None)
    → (value_of (if b then Some o else None) ≡ o.payload ∷ []) × kind o.payload
one_of_value kind true o has = (refl, has)
one_of_value kind false o has = absurd has

pub value_had : (p : Plain) (n : ℕ) (s : SlotId) → HasSlot (seat_at p n) s
    → value_of ((own_part p n).objects s) ≡ (slot_at p s).payload ∷ []
value_had p n s has = ap value_of (has_object p n s has)
