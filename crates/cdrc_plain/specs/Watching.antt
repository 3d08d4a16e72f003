-- Which slots of a plain heap may be restless: an object without references, which is to end, or a husk without weak
-- references, which is to be given again.
use Rattle.std.specs.Prelude.{◌≢◌, ◌<◌, length, if◌then◌else◌}
use Rattle.plain_protocol.specs.plain_state.declared.slot.SlotId.{SlotId}
use Rattle.plain_protocol.specs.plain_state.Lists.{is_slot}
use Rattle.plain_protocol.specs.plain_state.State.{Plain}
use Rattle.plain_store.specs.Draining.{IsCalm}
use Rattle.cdrc_plain.specs.declared.restless.Restless.{Restless}
use Rattle.cdrc_plain.specs.declared.restless.Restless.TheVariants.{Nowhere, At, Anywhere}

-- every slot is calm but those where the heap may be restless
abbrev pub IsRestlessOnly : Restless → Plain → Type 0
IsRestlessOnly Nowhere p = (s : SlotId) → IsCalm p s
IsRestlessOnly (At x) p = (x.0 < length p.slots) × ((s : SlotId) → s ≢ x → IsCalm p s)
IsRestlessOnly Anywhere p = Unit {0}

-- with one slot more
abbrev pub also : Restless → SlotId → Restless
also Nowhere x = At x
also (At first) x = if is_slot first x then At first else Anywhere
also Anywhere x = Anywhere
