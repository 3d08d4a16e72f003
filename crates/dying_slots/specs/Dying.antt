-- What a seat keeps of the slots that it has ended and not yet destroyed.
use Rattle.std.specs.Prelude.{ℕ, ◌==◌, not, nat_lt, Bool, List, ◌++◌}
use Rattle.std.specs.List.{filter}
use Rattle.core_functions.specs.plain_state.declared.slot.Kind.TheVariants.{Disposal}
use Rattle.core_functions.specs.plain_state.declared.slot.SlotId.{SlotId}
use Rattle.core_functions.specs.plain_state.Ejection.{Announcements}
use Rattle.core_functions.specs.plain_state.Lists.{times}

-- those that wait to become ripe and those that are ripe, in order, and for how many of each there is room
pub record DyingSlots : Type 0 where
  pub waiting : List SlotId
  pub ripe : List SlotId
  pub room : ℕ

-- nothing announces the slot for disposal
abbrev pub is_free : Announcements → SlotId → Bool
is_free seen s = seen Disposal s == 0

-- the free ones of those that wait become ripe, in their order, and the others wait on
abbrev pub ripening : Announcements → DyingSlots → DyingSlots
ripening seen d = record d {
  waiting = filter (λ s. not (is_free seen s)) d.waiting;
  ripe = d.ripe ++ filter (is_free seen) d.waiting;
}

-- of all dying slots those that aren't ripe
abbrev pub waiting_of : List SlotId → List SlotId → List SlotId
waiting_of ripe dying = filter (λ s. not (nat_lt 0 (times s ripe))) dying
