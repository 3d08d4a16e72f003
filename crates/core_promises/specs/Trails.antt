-- The trail of every seat, those that have left among them.
use Rattle.std.specs.Prelude.{ℕ, ◌≡◌, ◌==◌, List, [], ◌∷◌, ◌++◌, if◌then◌else◌}
use Rattle.core_law.specs.core_events.declared.act.Act.{Act}
use Rattle.core_law.specs.core_events.declared.act.Event.{Event}
use Rattle.core_law.specs.core_events.declared.shape.Shape.{Shape}
use Rattle.core_law.specs.core_events.declared.view.LeftSeat.{LeftSeat}
use Rattle.core_law.specs.core_events.declared.view.Move.{Move}
use Rattle.core_law.specs.core_events.Runs.{Core, Enabled, History, view_at}
use Rattle.core_law.specs.core_events.Views.{Terms}

-- the trail that was kept of seat n as it left
abbrev pub left_trail : ℕ → List LeftSeat → List Move
left_trail n [] = []
left_trail n (l ∷ ls) = if l.seat == n then l.trail else left_trail n ls

-- the trail of seat n: it stands in the seat's own view, and with seat 0 once the seat has left
abbrev pub trail_of : Core → ℕ → List Move
trail_of c n =
    if (view_at c n).left then left_trail n (view_at c 0).left_seats else (view_at c n).trail

-- Among these events, the latest first, seat n made this act, in the state `core`.
pub record HasEvent (z : Shape) (ts : Terms) (es : List Event) (n : ℕ) (a : Act) : Type 0 where
  pub since : List Event
  pub before : List Event
  pub core : Core
  pub are : es ≡ since ++ record { seat = n; act = a } ∷ before
  pub history : History z ts before core
  pub enabled : Enabled z core n a
