-- Which payloads the objects of a state have.
use Rattle.std.specs.Prelude.{ℕ, ◌≡◌, ◌⊎◌, List}
use Rattle.plain_state.specs.declared.slot.SlotId.{SlotId}
use Rattle.plain_state.specs.declared.slot.Stage.TheVariants.{Live, Ended}
use Rattle.plain_state.specs.State.{Plain, slot_at, stage_at}

-- the payloads of all objects fit
abbrev pub AllFit : (List ℕ → Type 0) → Plain → Type 0
AllFit fits p =
    (s : SlotId) → (stage_at p s ≡ Live) ⊎ (stage_at p s ≡ Ended) → fits (slot_at p s).payload
