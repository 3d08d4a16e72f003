-- What holds of every core, whatever was done with it.
use Rattle.std.specs.Prelude.{ℕ, ◌≤◌, ◌^◌, sum}
use Rattle.core_law.specs.core_events.declared.shape.Shape.{Shape}
use Rattle.core_law.specs.core_events.Runs.{Core, view_at}
use Rattle.core_law.specs.Sound.{Sound}

-- the invariant of all events, and that what the tickets of a seat can grant is within its bound
pub record Kept (z : Shape) (c : Core) : Type 0 where
  pub sound : Sound z c
  pub grants : (n : ℕ) → sum (view_at c n).grants ≤ 2 ^ 40
