-- The chains of slots that texts are read from.
use Rattle.std.specs.Prelude.{◌≡◌, [], ◌∷◌, Option, Some, None}
use Rattle.plain_protocol.specs.plain_state.declared.slot.SlotId.{SlotId}
use Rattle.plain_protocol.specs.plain_state.State.{Plain, slot_at, stage_at}
use Rattle.plain_protocol.specs.Calm.{IsMade}
use Rattle.directory_law.specs.Payloads.{Text, IsOwn, IsPart}

-- from a place on, along field 1, there are parts with these payloads, and then null
abbrev pub Along : Plain → Option SlotId → Text → Type 0
Along p place [] = place ≡ None
Along p place (t ∷ ts) =
    (s : SlotId) × (place ≡ Some s) × ((slot_at p s).payload ≡ t) × IsPart t
    × Along p (slot_at p s).second ts

-- the text begins with the payload of s
abbrev pub Begins : Plain → SlotId → Text → Type 0
Begins p s text = (tail : Text) × (text ≡ (slot_at p s).payload ∷ tail)

-- the text that is read from s along field 1
abbrev pub Reads : Plain → SlotId → Text → Type 0
Reads p s text =
    (tail : Text) × (text ≡ (slot_at p s).payload ∷ tail) × Along p (slot_at p s).second tail

-- a slot of the directory: it has a head or a part, alive or not
pub record OwnSlot (p : Plain) (s : SlotId) : Type 0 where
  pub made : IsMade (stage_at p s)
  pub own : IsOwn (slot_at p s).payload
