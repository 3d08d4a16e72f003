-- The plain state that a core shows.
use Rattle.std.specs.Prelude.{ℕ, ◌++◌, map, slice_index, Option, Some, None}
use Rattle.announce_slots.specs.plain_state.declared.slot.SlotId.{SlotId}
use Rattle.announce_slots.specs.plain_state.declared.slot.PlainSlot.{PlainSlot}
use Rattle.announce_slots.specs.plain_state.Lists.{times}
use Rattle.announce_slots.specs.plain_state.State.{Plain, PlainSeat}
use Rattle.core_events.specs.declared.shape.Shape.{Shape}
use Rattle.core_events.specs.declared.view.CoreView.{CoreView}
use Rattle.core_events.specs.declared.view.Phase.{Phase}
use Rattle.core_events.specs.declared.view.Phase.TheVariants as phase
use Rattle.core_events.specs.Words.{each_from, slot_in, cell_at, weak_cell_at, field_at, weak_field_at, payload_at}
use Rattle.announce_slots.specs.counter_word.Words.{has_zero}
use Rattle.core_events.specs.Views.{snapshots}
use Rattle.core_events.specs.Runs.{Core}
use Rattle.core_events.specs.Counts.{total, strong, stage, tickets_drawn}

-- the slot that a seat is filling
abbrev pub filled : Phase → Option SlotId
filled phase.Idle = None
filled (phase.Finish s) = None
filled (phase.Help s) = None
filled (phase.Zero s) = None
filled phase.Scan = None
filled (phase.Bare s) = Some s
filled (phase.Blank s) = Some s
filled (phase.Give s) = None

-- what is owed stands before what is retired, so that a payment takes the first deferred entry
abbrev pub show_seat : CoreView → PlainSeat
show_seat v = record {
  owned = v.owned;
  weaks = v.weaks;
  snapshots = snapshots v;
  deferred = v.owed ++ v.retired;
  dying = v.dying;
  filling = filled v.phase;
  adds = v.adds;
  left = v.left;
}

-- how often the slot was made
abbrev pub lives : Core → SlotId → ℕ
lives c s = total (λ v. times s v.made) c.views

abbrev pub show_slot : Shape → Core → SlotId → PlainSlot
show_slot z c s = record {
  stage = stage z c s;
  marked = has_zero (strong z c s);
  life = lives c s;
  payload = each_from 0 16 (λ i. slice_index c.words (payload_at z s i));
  first = slot_in (slice_index c.words (field_at z s 0));
  second = slot_in (slice_index c.words (field_at z s 1));
  weak_field = slot_in (slice_index c.words (weak_field_at z s));
}

abbrev pub shows : Shape → Core → Plain
shows z c = record {
  seats = map show_seat c.views;
  cells = each_from 0 z.cells (λ i. slot_in (slice_index c.words (cell_at z i)));
  weak_cells = each_from 0 z.weak_cells (λ i. slot_in (slice_index c.words (weak_cell_at z i)));
  slots = each_from 0 z.slots (λ x. show_slot z c (record { 0 = x }));
  tickets = tickets_drawn z c;
}
