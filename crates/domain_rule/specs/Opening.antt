-- How a domain comes to its seats, and how a seat leaves it.
use Rattle.std.specs.Prelude.{ℕ, ◌+◌, ◌==◌, Bool, true, false, List, [], ◌∷◌, ◌++◌, Some, None, if◌then◌else◌}
use Rattle.plain_protocol.specs.plain_state.declared.slot.SlotId.{SlotId}
use Rattle.plain_protocol.specs.plain_state.State.{empty}
use Rattle.plain_protocol.specs.Owns.{Object, has_slot}
use Rattle.core_law.specs.core_events.declared.act.Act.TheVariants as act
use Rattle.core_law.specs.core_events.declared.outcome.Outcome.TheVariants as outcome
use Rattle.core_law.specs.core_events.declared.shape.Shape.{Shape}
use Rattle.core_law.specs.core_events.Views.{Terms}
use Rattle.core_law.specs.core_events.Runs.{start, taken_over}
use Rattle.core_law.specs.core_events.Shows.{show_seat}
use Rattle.core_law.specs.core_events.Words.{each_from}
use Rattle.core_law.specs.core_events.Steps.{noted}
use Rattle.core_law.specs.core_events.Views.{first_view, no_view}
use Rattle.domain_rule.specs.declared.view.Known.{Known}
use Rattle.domain_rule.specs.declared.view.SeatView.{SeatView}
use Rattle.domain_rule.specs.Views.{known_of, object_in, objects_of, quota_at, whole_of}

-- whether two payloads are one
unfoldable pub same_words : List ℕ → List ℕ → Bool
same_words [] [] = true
same_words [] (y ∷ ys) = false
same_words (x ∷ xs) [] = false
same_words (x ∷ xs) (y ∷ ys) = if x == y then same_words xs ys else false

-- What two seats know of the object of one slot, which is one: were its lives or its payloads
-- different, its payload would be none.
abbrev pub same_object : Object → Object → Object
same_object mine other =
    record mine {
      payload =
          if mine.life == other.life
          then (if same_words mine.payload other.payload then mine.payload else [])
          else [];
    }

module _ {V : Type 0} where
  -- the view of seat n as it is opened; a domain of one seat begins with a seat that is alone
  abbrev pub opened_view : (ℕ → V) → Shape → Terms → ℕ → SeatView V
  opened_view first z ts n = record {
    core = first_view z n (quota_at ts.quotas n) ts.grants;
    objects = objects_of (empty z.seats z.slots z.cells z.weak_cells);
    cleared = [];
    whole = if z.seats == 1 then Some (whole_of (start z ts)) else None;
    opened = 1;
    left_adds = 0;
    left_makes = 0;
    past = [];
    gone = false;
    client = first n;
  }

  -- the first seat
  abbrev pub first_of : (ℕ → V) → Shape → Terms → SeatView V
  first_of first z ts = opened_view first z ts 0

  -- seat 0 when one more seat has been opened
  abbrev pub opened_more : SeatView V → SeatView V
  opened_more v = record v { opened = v.opened + 1 }

  -- what seat 0 has of a slot's object when it takes over what another seat has
  abbrev pub merged_object : SeatView V → SeatView V → SlotId → Object
  merged_object root v s =
      if has_slot (show_seat root.core) s
      then (if has_slot (show_seat v.core) s then same_object (object_in root s) (object_in v s)
      else object_in root s)
      else object_in v s

  abbrev pub merged_objects : SeatView V → SeatView V → List Known
  merged_objects root v =
      each_from 0 root.core.shape.slots (λ x. known_of (merged_object root v (record { 0 = x })))

  -- seat 0 has taken over what the seat has
  abbrev pub joined_view : (V → V → V) → SeatView V → SeatView V → SeatView V
  joined_view joined root v =
      record root {
        core = noted (act.Leave v.core.seat) outcome.Plain (taken_over root.core v.core);
        objects = merged_objects root v;
        cleared = root.cleared ++ v.cleared;
        left_adds = root.left_adds + v.core.adds;
        left_makes = root.left_makes + v.core.makes;
        client = joined root.client v.client;
      }

  -- a seat that has left
  abbrev pub gone_view : V → SeatView V
  gone_view gone = record {
    core = no_view;
    objects = [];
    cleared = [];
    whole = None;
    opened = 0;
    left_adds = 0;
    left_makes = 0;
    past = [];
    gone = true;
    client = gone;
  }
