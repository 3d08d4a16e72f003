-- In which order a search comes to the slots: from the first one upwards, and after the last slot from
-- slot 0 on.
use Rattle.std.specs.Prelude.{ℕ, ◌≡◌, ◌⊎◌, ◌+◌, ◌-◌, ◌/◌, ◌%◌, ◌^◌, ◌<◌, ◌==◌, if◌then◌else◌}
use Rattle.protocol_pairs.specs.plain_state.declared.slot.SlotId.{SlotId}

-- the slot of this number comes in this turn
abbrev pub IsAtTurn : ℕ → ℕ → ℕ → ℕ → Type 0
IsAtTurn first slots turn number =
    ((number ≡ first + turn) × (number < slots))
    ⊎ ((number + slots ≡ first + turn) × (number < first))

-- The newest that the search found of a slot's word of bits, where `found` is what it found last, and
-- `home` what it found last of the word in which it began. Of a word to which it comes anew it has
-- found nothing, so all bits may be set.
abbrev pub newest : SlotId → SlotId → ℕ → ℕ → ℕ
newest s first home found =
    if s.0 % 64 == 0 then (if s.0 / 64 == first.0 / 64 then home else 2 ^ 64 - 1) else found
