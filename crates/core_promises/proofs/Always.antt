-- After every list of events the core shows a lawful plain state, and each of them shows a plain step.
use Rattle.core_law.specs.core_events.declared.act.Event.{Event}
use Rattle.core_law.specs.core_events.declared.shape.Shape.{Shape}
use Rattle.core_law.specs.core_events.Runs.{AreEnabled, AreTerms, Core, History, IsShape, after, run, start}
use Rattle.core_law.specs.core_events.Shows.{shows}
use Rattle.core_law.specs.core_events.Views.{Terms}
use Rattle.core_law.specs.Sound.{Sound}
use Rattle.core_law.proofs.Starts.{start_sound}
use Rattle.core_law.proofs.Always.{always_sound, history_sound, step_keeps}
use Rattle.core_law.specs.Shown.{AllShow}
use Rattle.core_law.proofs.Events.{event_shows}
use Rattle.core_law.proofs.Lawful.{shows_lawful}
use Rattle.core_law.specs.plain_state.Lawful.{Lawful}
use Rattle.std.proofs.Common.{List, [], ◌∷◌}

run_shows : (z : Shape) (c : Core) (es : List Event) → Sound z c → AreEnabled z c es
    → AllShow z c es
run_shows z c [] so on = tt
run_shows z c (e ∷ es) so on = (
  event_shows z c e.seat e.act so on.0,
  run_shows z (after z c e.seat e.act) es (step_keeps z c e.seat e.act so on.0) on.1,
)

pub always_shows : (z : Shape) (ts : Terms) (es : List Event) → IsShape z → AreTerms z ts
    → AreEnabled z (start z ts) es → AllShow z (start z ts) es
always_shows z ts es shape terms on = run_shows z (start z ts) es (start_sound z ts shape terms) on

pub always_lawful : (z : Shape) (ts : Terms) (es : List Event) → IsShape z → AreTerms z ts
    → AreEnabled z (start z ts) es → Lawful (shows z (run z (start z ts) es))
always_lawful z ts es shape terms on =
    shows_lawful z (run z (start z ts) es) (always_sound z ts es shape terms on)

pub history_lawful : (z : Shape) (ts : Terms) (es : List Event) (c : Core) → IsShape z
    → AreTerms z ts → History z ts es c → Lawful (shows z c)
history_lawful z ts es c shape terms h = shows_lawful z c (history_sound z ts es c shape terms h)
