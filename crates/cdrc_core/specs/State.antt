-- A core, and how large it is; and what its seats may use up.
use Rattle.std.specs.Prelude.{ℕ, List}
use Rattle.core_law.specs.core_events.declared.shape.Shape.{Shape}
use Rattle.core_law.specs.core_events.declared.shape.Quota.{Quota}
use Rattle.core_law.specs.core_events.Runs.{Core}
use Rattle.core_law.specs.core_events.Views.{Terms}

pub record State : Type 0 where
  pub shape : Shape
  pub core : Core

abbrev pub terms : List Quota → List ℕ → Terms
terms quotas grants = record { quotas = quotas; grants = grants }
