-- What holds after every list of events holds of every state that has a history.
use Rattle.std.proofs.Common.{◌≡◌, ℕ, ◌<◌, List, [], ◌∷◌, refl, ◌∙◌, ap, subst}
use Rattle.core_law.specs.core_events.declared.act.Event.{Event}
use Rattle.core_law.specs.core_events.declared.shape.Shape.{Shape}
use Rattle.core_law.specs.core_events.Views.{Terms}
use Rattle.core_law.specs.core_events.Runs.{AreEnabled, AreTerms, Core, History, IsShape, moves_of, newest_first, run, start}
use Rattle.core_promises.specs.Trails.{trail_of}
use Rattle.core_promises.proofs.Trails.{trails_tell}

-- the events of a history, the oldest first, lead to its state, and then on
runs_on : (z : Shape) (ts : Terms) (es : List Event) (b : Core) (more : List Event)
    → History z ts es b → AreEnabled z b more
    → AreEnabled z (start z ts) (newest_first es more)
    × (run z b more ≡ run z (start z ts) (newest_first es more))
runs_on z ts [] b more h on =
    subst (λ (c : Core). AreEnabled z c more × (run z b more ≡ run z c more)) h (on, refl)
runs_on z ts (e ∷ es) b more h on =
    let next = subst (λ (c : Core). AreEnabled z c more) h.2.1 on in
    let r = runs_on z ts es h.0 (e ∷ more) h.1 (h.2.0, next) in
    (r.0, ap (λ (c : Core). run z c more) h.2.1 ∙ r.1)

pub history_runs : (z : Shape) (ts : Terms) (es : List Event) (c : Core) → History z ts es c
    → AreEnabled z (start z ts) (newest_first es [])
    × (c ≡ run z (start z ts) (newest_first es []))
history_runs z ts es c h = runs_on z ts es c [] h tt

-- so the trails of a state are the events of its history
pub history_trails : (z : Shape) (ts : Terms) (es : List Event) (c : Core) (n : ℕ) → IsShape z
    → AreTerms z ts → History z ts es c → n < z.seats
    → trail_of c n ≡ moves_of z (start z ts) n (newest_first es [])
history_trails z ts es c n shape terms h hn =
    let r = history_runs z ts es c h in
    ap (λ (d : Core). trail_of d n) r.1
    ∙ trails_tell z ts (newest_first es []) n shape terms r.0 hn
