-- The invariant, in the form in which each step keeps it.
use Rattle.std.specs.Prelude.{ℕ, ◌≡◌, ◌+◌, ◌^◌, ◌<◌, ◌≤◌, true, [], length, slice_index}
use Rattle.core_law.specs.plain_state.declared.slot.SlotId.{SlotId}
use Rattle.core_law.specs.plain_state.Lists.{times}
use Rattle.core_law.specs.core_events.Runs.{IsQuota}
use Rattle.epoch_core.specs.declared.act.Dated.{Dated}
use Rattle.epoch_core.specs.declared.shape.EpochShape.{EpochShape}
use Rattle.epoch_core.specs.declared.view.EpochPhase.TheVariants as phase
use Rattle.epoch_core.specs.declared.view.EpochView.{EpochView}
use Rattle.epoch_core.specs.declared.view.Sweep.{Sweep}
use Rattle.epoch_core.specs.Words.{last_epoch, region_at, word_count}
use Rattle.epoch_core.specs.Steps.{dated_times}
use Rattle.epoch_core.specs.Runs.{Core, view_at, opened_at, epoch, IsShape}
use Rattle.epoch_core.specs.Counts.{adds_used, naming, places, witness}
use Rattle.epoch_core.specs.Slots.{numbers, SlotLaw}

-- what holds of each seat by itself: its numbers, that every slot that it names is there, that a seat outside a region
-- has seen nothing, and that one that has left has nothing
pub record SeatLaw (z : EpochShape) (n : ℕ) (v : EpochView) : Type 0 where
  pub number : v.seat ≡ n
  pub same_shape : v.shape ≡ z
  pub quota : IsQuota v.quota
  pub adds : v.adds ≤ v.quota.adds
  pub makes : v.makes ≤ v.quota.makes
  pub can_start : (s : SlotId) → v.phase ≡ phase.Blank s → v.adds < v.quota.adds
  pub range : (s : SlotId) → z.slots ≤ s.0 → naming s v ≡ 0
  pub outside : v.number ≡ 0 → v.seen ≡ []
  pub gone :
      v.left ≡ true
      → (v.phase ≡ phase.Idle) × (v.number ≡ 0) × (v.owned ≡ []) × (v.pending ≡ [])
      × (v.dying ≡ [])

-- What holds of a seat beside the epoch e, where its region was opened at epoch g. The number that it read is no later
-- than e; in an open region e is g or g + 1; a flush has read an epoch no later than e, and has read all region words
-- only where it found each of them fit; it knows no later epoch than e, and no entry is dated later.
pub record RegionLaw (seats e g : ℕ) (v : EpochView) : Type 0 where
  pub read : (x : ℕ) → v.phase ≡ phase.Entering x → (x ≤ e) × (v.number ≡ 0)
  pub stored : 0 < v.number → (v.number ≤ g + 1) × (g ≤ e) × (e ≤ g + 1)
  pub behind :
      (w : Sweep) → v.phase ≡ phase.Scan w
      → (w.epoch ≤ e) × (w.passed ≤ seats)
      × (w.passed ≡ seats → (w.fit ≡ true) × (w.epoch < last_epoch))
  pub known : v.known ≤ e
  pub dates : (d : Dated) → 0 < dated_times d v.pending → d.date ≤ e

-- Where a flush has read the epoch that still stands, and has found fit all region words that it has passed, each open
-- region among those was opened at this epoch: so the epoch may advance.
abbrev pub AreSwept : EpochShape → Core → Type 0
AreSwept z c =
    (m n : ℕ) (w : Sweep) → m < z.seats → n < z.seats → (view_at c m).phase ≡ phase.Scan w
    → w.fit ≡ true → w.epoch ≡ epoch c → n < w.passed → 0 < (view_at c n).number
    → opened_at c n ≡ epoch c

-- what an open region has seen stands in a place, or has an entry that is undated or dated no earlier than the region
abbrev pub AreSeen : EpochShape → Core → Type 0
AreSeen z c =
    (n : ℕ) (s : SlotId) → n < z.seats → 0 < times s (view_at c n).seen
    → 0 < witness z (opened_at c n) c s

pub record Sound (z : EpochShape) (c : Core) : Type 0 where
  pub shape : IsShape z
  pub words : length c.words ≡ word_count z
  pub views : length c.views ≡ z.seats
  pub opened : length c.opened ≡ z.seats
  pub seats : (n : ℕ) → n < z.seats → SeatLaw z n (view_at c n)
  pub slots : (s : SlotId) → s.0 < z.slots → SlotLaw (adds_used c) (numbers z c s)
  pub limit : epoch c ≤ last_epoch
  pub stand : (n : ℕ) → n < z.seats → slice_index c.words (region_at n) ≡ (view_at c n).number
  pub regions :
      (n : ℕ) → n < z.seats
      → RegionLaw z.seats (epoch c) (opened_at c n) (view_at c n)
  pub swept : AreSwept z c
  pub seen : AreSeen z c
  pub range : (s : SlotId) → z.slots ≤ s.0 → places z c.words s ≡ 0
  pub fit : (i : ℕ) → slice_index c.words i < 2 ^ 64
