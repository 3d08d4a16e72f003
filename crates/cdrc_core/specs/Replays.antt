-- The first event of a list that isn't enabled.
use Rattle.std.specs.Prelude.{ℕ, ◌<◌, List, length, take}
use Rattle.std.specs.List.{HoldsAt}
use Rattle.core_law.specs.core_events.declared.act.Event.{Event}
use Rattle.core_law.specs.core_events.declared.shape.Shape.{Shape}
use Rattle.core_law.specs.core_events.Runs.{Core, AreEnabled, Enabled, run}

-- from c on, the events before place i are enabled in turn, and the one there is not
abbrev pub IsFirstRefused : Shape → Core → List Event → ℕ → Type 0
IsFirstRefused z c es i =
    (i < length es) × AreEnabled z c (take i es)
    × HoldsAt (λ e. Enabled z (run z c (take i es)) e.seat e.act → ⊥) es i
