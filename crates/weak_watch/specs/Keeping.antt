-- What a call leaves of its seat.
use Rattle.std.specs.Prelude.{ℕ, ◌≡◌, ◌+◌, ◌≤◌, List, [], ◌∷◌, ◌++◌, Option, Some, None, Result, Ok, Err}
use Rattle.part_calls.specs.acquire_retire.Collecting.{rest_of}
use Rattle.part_calls.specs.acquire_retire.Seats.{SeatState}
use Rattle.part_calls.specs.core_events.declared.view.CoreView.{CoreView}
use Rattle.part_calls.specs.core_events.Views.{Holds}
use Rattle.part_calls.specs.domain_rule.Views.{object_in}
use Rattle.part_calls.specs.plain_state.declared.slot.SlotId.{SlotId}
use Rattle.part_calls.specs.plain_state.Lists.{times}
use Rattle.weak_part_calls.specs.counted_handles.Handles.{Handle}

-- what a seat has beside its references, its batch, its dying and ripe slots, its trail, and how many objects it made
-- and adds it used
abbrev pub aside : CoreView → CoreView
aside v = record (rest_of v) { owned = []; weaks = []; made = []; adds = 0; makes = 0 }

-- The seat owns these references strongly and these weakly, in some order. It has used at most so many makes and adds
-- more. What it has beside is as it was, and so is what it knows of the objects that it held and holds.
pub record Keeps {V : Type 0} (makes adds : ℕ) (owned weaks : List SlotId) (old new : SeatState V)
    : Type 0 where
  pub owns : (x : SlotId) → times x new.view.core.owned ≡ times x owned
  pub weakly : (x : SlotId) → times x new.view.core.weaks ≡ times x weaks
  pub makes_used :
      (old.view.core.makes ≤ new.view.core.makes)
      × (new.view.core.makes ≤ old.view.core.makes + makes)
  pub adds_used :
      (old.view.core.adds ≤ new.view.core.adds)
      × (new.view.core.adds ≤ old.view.core.adds + adds)
  pub same : aside new.view.core ≡ aside old.view.core
  pub knows :
      (x : SlotId) → Holds old.view.core x → Holds new.view.core x
      → object_in new.view x ≡ object_in old.view x

-- these slots, and one more if there is one; and how many that is
abbrev pub with_more : Option SlotId → List SlotId → List SlotId
with_more None xs = xs
with_more (Some s) xs = xs ++ s ∷ []

abbrev pub count_of : Option SlotId → ℕ
count_of None = 0
count_of (Some s) = 1

-- what is owned besides where a call answers a handle
abbrev pub with_answer : {E : Type 0} → Result Handle E → List SlotId → List SlotId
with_answer (Ok handle) xs = xs ++ handle.slot ∷ []
with_answer (Err error) xs = xs

-- one where a call answers, none where it is refused
abbrev pub one_by : {T E : Type 0} → Result T E → ℕ
one_by (Ok x) = 1
one_by (Err error) = 0
