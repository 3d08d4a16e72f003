-- A core on the way.
use Rattle.std.specs.Prelude.{ℕ}
use Rattle.step_lines.specs.core_events.declared.shape.Shape.{Shape}
use Rattle.step_lines.specs.core_events.Runs.{Core}

-- a core, its shape, and how many events it made
pub record Running : Type 0 where
  pub shape : Shape
  pub core : Core
  pub events : ℕ
