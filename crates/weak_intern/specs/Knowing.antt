-- What a seat knows of the text of a record.
use Rattle.std.specs.Prelude.{ℕ, ◌≡◌, ◌⊎◌, List}
use Rattle.atomic_weak.specs.plain_state.declared.slot.SlotId.{SlotId}
use Rattle.atomic_weak.specs.domain_rule.Views.{object_in}
use Rattle.atomic_weak.specs.acquire_retire.Seats.{SeatState}
use Rattle.record_making.specs.directory_law.Bytes.{IsTextOf}
use Rattle.record_making.specs.directory_law.Payloads.{IsText, Text}
use Rattle.record_making.specs.directory_law.declared.view.Ran.{Ran}
use Rattle.record_making.specs.directory_law.declared.view.View.{View}
use Rattle.record_making.specs.directory_law.Views.{In, rope}
use Rattle.weak_intern.specs.Seeing.{HasSeenIn}

-- the seat bound this text for s, or saw s in a cell and read the whole text; in the life in which
-- it has s
abbrev pub Knows : {V : Type 0} → (V → View) → SlotId → Text → SeatState V → Type 0
Knows seen s text seat =
    In (rope s (object_in seat.view s).life text) (seen seat.view.client).kept
    ⊎ (HasSeenIn seen s seat × (e : Ran) × In e (seen seat.view.client).ran × (e.slot ≡ s)
    × (e.life ≡ (object_in seat.view s).life) × (e.before ≡ text) × IsText text)

-- and the text is that of these bytes
abbrev pub KnowsRecord : {V : Type 0} → (V → View) → List ℕ → SlotId → SeatState V → Type 0
KnowsRecord seen bytes s seat = (text : Text) × IsTextOf bytes text × Knows seen s text seat
