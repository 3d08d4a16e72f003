-- The plain state that a core shows.
use Rattle.std.specs.Prelude.{ℕ, Bool, true, false, List, [], ◌∷◌, ◌++◌, map, slice_index, Option, Some, None}
use Rattle.core_law.specs.plain_state.declared.slot.Kind.TheVariants.{Strong}
use Rattle.core_law.specs.plain_state.declared.slot.PlainSlot.{PlainSlot}
use Rattle.core_law.specs.plain_state.declared.slot.SlotId.{SlotId}
use Rattle.core_law.specs.plain_state.declared.slot.Stage.{Stage}
use Rattle.core_law.specs.plain_state.declared.slot.Stage.TheVariants.{Free, Blank, Live, Ended, Husk}
use Rattle.core_law.specs.plain_state.Lists.{Entry, times}
use Rattle.core_law.specs.plain_state.State.{Plain, PlainSeat}
use Rattle.core_law.specs.core_events.Words.{each_from, slot_in}
use Rattle.epoch_core.specs.declared.act.Dated.{Dated}
use Rattle.epoch_core.specs.declared.shape.EpochShape.{EpochShape}
use Rattle.epoch_core.specs.declared.view.EpochPhase.{EpochPhase}
use Rattle.epoch_core.specs.declared.view.EpochPhase.TheVariants as phase
use Rattle.epoch_core.specs.declared.view.EpochView.{EpochView}
use Rattle.epoch_core.specs.Words.{cell_at, field_at, payload_at}
use Rattle.epoch_core.specs.Runs.{Core}
use Rattle.epoch_core.specs.Counts.{total}
use Rattle.epoch_core.specs.Good.{stage}

-- the slot that a seat is filling
abbrev pub filled : EpochPhase → Option SlotId
filled phase.Idle = None
filled (phase.Entering e) = None
filled (phase.Undated s) = None
filled (phase.Blank s) = Some s
filled (phase.Scan w) = None

-- the entry that has no date yet
abbrev pub undated_entry : EpochPhase → List Entry
undated_entry phase.Idle = []
undated_entry (phase.Entering e) = []
undated_entry (phase.Undated s) = (Strong, s) ∷ []
undated_entry (phase.Blank s) = []
undated_entry (phase.Scan w) = []

-- each look of an open region is a snapshot, and what is pending is deferred
abbrev pub show_seat : EpochView → PlainSeat
show_seat v = record {
  owned = v.owned;
  weaks = [];
  snapshots = map (λ (s : SlotId). (Strong, s)) v.seen;
  deferred = map (λ (d : Dated). (Strong, d.slot)) v.pending ++ undated_entry v.phase;
  dying = v.dying;
  filling = filled v.phase;
  adds = v.adds;
  left = v.left;
}

-- how often the slot was made
abbrev pub lives : Core → SlotId → ℕ
lives c s = total (λ v. times s v.made) c.views

abbrev pub is_marked : Stage → Bool
is_marked Live = false
is_marked Free = true
is_marked Blank = true
is_marked Ended = true
is_marked Husk = true

abbrev pub show_slot : EpochShape → Core → SlotId → PlainSlot
show_slot z c s = record {
  stage = stage z c s;
  marked = is_marked (stage z c s);
  life = lives c s;
  payload = each_from 0 16 (λ i. slice_index c.words (payload_at z s i));
  first = slot_in (slice_index c.words (field_at z s 0));
  second = slot_in (slice_index c.words (field_at z s 1));
  weak_field = None;
}

abbrev pub shows : EpochShape → Core → Plain
shows z c = record {
  seats = map show_seat c.views;
  cells = each_from 0 z.cells (λ i. slot_in (slice_index c.words (cell_at z i)));
  weak_cells = [];
  slots = each_from 0 z.slots (λ x. show_slot z c (record { 0 = x }));
  tickets = 0;
}
