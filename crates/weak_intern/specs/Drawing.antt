-- What the draw of a ticket does.
use Rattle.std.specs.Prelude.{ℕ, ◌≡◌, ◌+◌, List, [], ◌∷◌, ◌++◌}
use Rattle.atomic_weak.specs.plain_state.declared.slot.SlotId.{SlotId}
use Rattle.atomic_weak.specs.core_events.declared.view.Move.{Move}
use Rattle.atomic_weak.specs.core_events.Views.{Holds}
use Rattle.atomic_weak.specs.domain_rule.Views.{object_in}
use Rattle.atomic_weak.specs.acquire_retire.Seats.{SeatState}
use Rattle.record_making.specs.directory_law.declared.view.View.{View}
use Rattle.record_making.specs.directory_law.Cells.{Area}
use Rattle.record_making.specs.directory_law.Lessons.{drawn}

-- The seat has drawn ticket t: that is one add, and the directory's interns of t are the seat's.
-- What it has beside, and what it knows of the objects that it holds, is as it was.
pub record Draws {V : Type 0} (seen : V → View) (with_seen : V → View → V) (z : Area) (t : ℕ)
    (old new : SeatState V) : Type 0 where
  pub moves : List Move
  pub core :
      new.view.core
      ≡ record old.view.core {
        adds = old.view.core.adds + 1;
        tickets = old.view.core.tickets ++ t ∷ [];
        trail = old.view.core.trail ++ moves;
      }
  pub client : new.view.client ≡ with_seen old.view.client (drawn z (seen old.view.client) t)
  pub knows : (x : SlotId) → Holds old.view.core x → object_in new.view x ≡ object_in old.view x
