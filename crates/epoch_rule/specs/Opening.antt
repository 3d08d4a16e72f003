-- How a domain under epochs comes to its seats, and how a seat leaves it.
use Rattle.std.specs.Prelude.{ℕ, ◌+◌, ◌==◌, true, false, List, [], ◌++◌, Some, None, if◌then◌else◌}
use Rattle.domain_rule.specs.plain_protocol.plain_state.declared.slot.SlotId.{SlotId}
use Rattle.domain_rule.specs.plain_protocol.plain_state.State.{empty}
use Rattle.domain_rule.specs.plain_protocol.Owns.{Object, has_slot}
use Rattle.domain_rule.specs.declared.view.Known.{Known}
use Rattle.domain_rule.specs.Opening.{same_object}
use Rattle.domain_rule.specs.Views.{known_of, objects_of}
use Rattle.epoch_core.specs.core_events.Words.{each_from}
use Rattle.epoch_core.specs.core_events.declared.shape.Quota.{Quota}
use Rattle.epoch_core.specs.declared.act.EpochAct.TheVariants as act
use Rattle.epoch_core.specs.declared.outcome.EpochOutcome.TheVariants as outcome
use Rattle.epoch_core.specs.declared.shape.EpochShape.{EpochShape}
use Rattle.epoch_core.specs.Runs.{start, taken_over}
use Rattle.epoch_core.specs.Shows.{show_seat}
use Rattle.epoch_core.specs.Steps.{noted}
use Rattle.epoch_core.specs.Views.{first_view, no_view}
use Rattle.epoch_rule.specs.declared.view.EpochSeatView.{EpochSeatView}
use Rattle.epoch_rule.specs.Views.{object_in, quota_at, whole_of}

module _ {V : Type 0} where
  -- the view of seat n as it is opened; a domain of one seat begins with a seat that is alone
  abbrev pub opened_view : (ℕ → V) → EpochShape → List Quota → ℕ → EpochSeatView V
  opened_view first z qs n = record {
    core = first_view z n (quota_at qs n);
    objects = objects_of (empty z.seats z.slots z.cells 0);
    cleared = [];
    whole = if z.seats == 1 then Some (whole_of (start z qs)) else None;
    opened = 1;
    left_adds = 0;
    left_makes = 0;
    past = [];
    gone = false;
    client = first n;
  }

  -- the first seat
  abbrev pub first_of : (ℕ → V) → EpochShape → List Quota → EpochSeatView V
  first_of first z qs = opened_view first z qs 0

  -- seat 0 when one more seat has been opened
  abbrev pub opened_more : EpochSeatView V → EpochSeatView V
  opened_more v = record v { opened = v.opened + 1 }

  -- what seat 0 has of a slot's object when it takes over what another seat has
  abbrev pub merged_object : EpochSeatView V → EpochSeatView V → SlotId → Object
  merged_object root v s =
      if has_slot (show_seat root.core) s
      then (if has_slot (show_seat v.core) s then same_object (object_in root s) (object_in v s)
      else object_in root s)
      else object_in v s

  abbrev pub merged_objects : EpochSeatView V → EpochSeatView V → List Known
  merged_objects root v =
      each_from 0 root.core.shape.slots (λ x. known_of (merged_object root v (record { 0 = x })))

  -- seat 0 has taken over what the seat has
  abbrev pub joined_view : (V → V → V) → EpochSeatView V → EpochSeatView V → EpochSeatView V
  joined_view joined root v =
      record root {
        core = noted (act.Leave v.core.seat) outcome.Plain (taken_over root.core v.core);
        objects = merged_objects root v;
        cleared = root.cleared ++ v.cleared;
        left_adds = root.left_adds + v.core.adds;
        left_makes = root.left_makes + v.core.makes;
        client = joined root.client v.client;
      }

  -- a seat that has left
  abbrev pub gone_view : V → EpochSeatView V
  gone_view gone = record {
    core = no_view;
    objects = [];
    cleared = [];
    whole = None;
    opened = 0;
    left_adds = 0;
    left_makes = 0;
    past = [];
    gone = true;
    client = gone;
  }
