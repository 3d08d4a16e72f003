-- What holds of every state that events reach, part by part.
use Rattle.std.specs.Prelude.{ℕ, ◌≡◌, ◌≢◌, ◌+◌, ◌<◌, ◌≤◌, ◌==◌, nat_lt, length, if◌then◌else◌}
use Rattle.core_law.specs.plain_state.declared.slot.SlotId.{SlotId}
use Rattle.core_law.specs.plain_state.declared.slot.Stage.{Stage}
use Rattle.core_law.specs.plain_state.declared.slot.Stage.TheVariants.{Free, Blank, Live, Ended}
use Rattle.core_law.specs.plain_state.Lists.{times}
use Rattle.epoch_core.specs.declared.shape.EpochShape.{EpochShape}
use Rattle.epoch_core.specs.Words.{free_word, word_count}
use Rattle.epoch_core.specs.Views.{Holds, IsInside}
use Rattle.epoch_core.specs.Runs.{Core, view_at, opened_at, epoch, HasNullFields}
use Rattle.epoch_core.specs.Counts.{count, refs, witness, fillers, dying_times, total}

-- what tells how far a slot is: its count word, the seats that fill it, and how often it stands in dying lists
unfoldable pub stage_of : ℕ → ℕ → ℕ → Stage
stage_of word filling dying =
    if word == free_word then Free
    else if nat_lt 0 filling then Blank
    else if nat_lt 0 dying then Ended
    else Live

abbrev pub stage : EpochShape → Core → SlotId → Stage
stage z c s = stage_of (count z c s) (fillers c s) (dying_times c s)

-- the count word of a live slot counts its references, of which there is one
pub record EpochCounts (z : EpochShape) (c : Core) (s : SlotId) : Type 0 where
  pub counted : stage z c s ≡ Live → count z c s ≡ refs z c s
  pub some : stage z c s ≡ Live → 0 < refs z c s
  pub none : stage z c s ≢ Live → refs z c s ≡ 0

-- Of an open region: the number that its word holds is at most one more than the epoch at which it was opened, and so
-- is the epoch; and each slot that it has seen stands in a place, or has an entry that is undated or dated no earlier.
pub record EpochRegion (z : EpochShape) (c : Core) (n : ℕ) : Type 0 where
  pub number : IsInside (view_at c n) → (view_at c n).number ≤ opened_at c n + 1
  pub epoch : IsInside (view_at c n) → (opened_at c n ≤ epoch c) × (epoch c ≤ opened_at c n + 1)
  pub seen :
      (s : SlotId) → 0 < times s (view_at c n).seen
      → IsInside (view_at c n) × (0 < witness z (opened_at c n) c s)

-- a slot stands in at most one dying list, what a seat owns or has seen is live, and a free slot is named nowhere
pub record EpochEnds (z : EpochShape) (c : Core) (s : SlotId) : Type 0 where
  pub once : dying_times c s ≤ 1
  pub held : (n : ℕ) → n < z.seats → Holds (view_at c n) s → stage z c s ≡ Live
  pub free :
      stage z c s ≡ Free
      → (refs z c s ≡ 0) × (dying_times c s ≡ 0) × (fillers c s ≡ 0) × HasNullFields z c.words s
  pub unseen : stage z c s ≢ Live → total (λ v. times s v.seen) c.views ≡ 0

pub record Good (z : EpochShape) (c : Core) : Type 0 where
  pub words : length c.words ≡ word_count z
  pub views : length c.views ≡ z.seats
  pub counts : (s : SlotId) → s.0 < z.slots → EpochCounts z c s
  pub regions : (n : ℕ) → n < z.seats → EpochRegion z c n
  pub ends : (s : SlotId) → s.0 < z.slots → EpochEnds z c s
