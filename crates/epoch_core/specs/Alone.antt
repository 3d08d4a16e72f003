-- Flushes of a seat that is alone.
use Rattle.std.specs.Prelude.{ℕ, ◌≡◌, ◌≢◌, ◌+◌, ◌<◌, List, [], ◌∷◌, ◌++◌, replicate, true}
use Rattle.epoch_core.specs.declared.act.EpochAct.{EpochAct}
use Rattle.epoch_core.specs.declared.act.EpochAct.TheVariants as act
use Rattle.epoch_core.specs.declared.shape.EpochShape.{EpochShape}
use Rattle.epoch_core.specs.Runs.{Core, Step, epoch, view_at}
use Rattle.epoch_core.specs.Steps.{CanLeave}
use Rattle.epoch_core.specs.Sound.{Sound}

-- every other seat has left
abbrev pub IsOnly : EpochShape → Core → ℕ → Type 0
IsOnly z c n = (m : ℕ) → m < z.seats → m ≢ n → (view_at c m).left ≡ true

-- by these acts, in turn, seat n leads from c to d
abbrev pub Acts : EpochShape → ℕ → List EpochAct → Core → Core → Type 0
Acts z n [] c d = d ≡ c
Acts z n (a ∷ acts) c d = (b : Core) × Step z c n a b × Acts z n acts b d

-- a flush reads the epoch and then each region word, and advances the epoch
abbrev pub flush_acts : EpochShape → List EpochAct
flush_acts z = act.Flush ∷ (replicate z.seats act.Scan ++ act.Advance ∷ [])

-- from c to d seat n, which is alone and in no region, has advanced the epoch, and knows it
pub record Flushed (z : EpochShape) (n : ℕ) (c d : Core) : Type 0 where
  pub sound : Sound z d
  pub only : IsOnly z d n
  pub idle : CanLeave (view_at d n)
  pub pending : (view_at d n).pending ≡ (view_at c n).pending
  pub now : epoch d ≡ epoch c + 1
  pub known : (view_at d n).known ≡ epoch c + 1
