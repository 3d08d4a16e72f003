-- How often some words announce a slot.
use Rattle.std.specs.Prelude.{ℕ, ◌==◌, List, count_by}
use Rattle.plain_state.specs.declared.slot.Kind.{Kind}
use Rattle.plain_state.specs.declared.slot.SlotId.{SlotId}
use Rattle.announce_slots.specs.Words.{code}

-- how often a word stands among those that a scan has seen
unfoldable pub seen_times : ℕ → List ℕ → ℕ
seen_times w seen = count_by (λ x. x == w) seen

-- how often they announce the slot under this kind
abbrev pub announced_in : List ℕ → Kind → SlotId → ℕ
announced_in seen kind slot = seen_times (code kind slot) seen
