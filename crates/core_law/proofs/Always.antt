-- The invariant after every event, every list of events, and every history.
use Rattle.std.proofs.Common.{◌≡◌, ◌⊎◌, inl, inr, ⊎_elim, ℕ, List, [], ◌∷◌, refl, sym, subst, arith}
use Rattle.std.proofs.lemmas.List.{set-get_or}
use Rattle.core_events.specs.declared.act.Act.{Act}
use Rattle.core_events.specs.declared.act.Act.TheVariants as act
use Rattle.core_events.specs.declared.act.Event.{Event}
use Rattle.core_events.specs.declared.shape.Shape.{Shape}
use Rattle.core_events.specs.Views.{Terms}
use Rattle.core_events.specs.Steps.{CanLeave}
use Rattle.core_events.specs.Runs.{Core, Enabled, after, run, AreEnabled, History, newest_first, start, view_at, views_after, IsShape, AreTerms}
use Rattle.core_events.specs.Good.{Good}
use Rattle.core_law.specs.Sound.{Sound}
use Rattle.core_law.proofs.Keeps.{keeps}
use Rattle.core_law.proofs.Leaves.{leave_sound}
use Rattle.core_law.proofs.Starts.{start_sound}
use Rattle.core_law.proofs.Parts.{sound_good}

leave_keeps : (z : Shape) (c : Core) (n j : ℕ) → Sound z c → Enabled z c n (act.Leave j)
    → Sound z (after z c n (act.Leave j))
leave_keeps z c n j so on =
    let may = on.1 in
    let sv = so.views in
    let h = on.0 in
    let number = (so.seats n (omega arith)).number in
    let root : n ≡ 0 = omega arith in
    subst (λ (ws : List ℕ). Sound z (record {
      words = ws;
      views = views_after z c n
          (act.Leave j);
    }))
    (sym (set-get_or c.words 0 0))
    (leave_sound z c so j may.1 may.2 (subst (λ (m : ℕ). CanLeave (view_at c m)) root may.3) on.2)

pub is_leave : (a : Act) → ((j : ℕ) × (a ≡ act.Leave j)) ⊎ ((j : ℕ) → a ≡ act.Leave j → ⊥)
is_leave (act.Leave j) = inl (j, refl)
is_leave a = inr (λ j e. absurd (cc (e)))

pub step_keeps : (z : Shape) (c : Core) (n : ℕ) (a : Act) → Sound z c → Enabled z c n a
    → Sound z (after z c n a)
step_keeps z c n a so on = ⊎_elim
    (λ l. subst (λ (b : Act). Sound z (after z c n b)) (sym l.1)
    (leave_keeps z c n l.0 so (subst (λ (b : Act). Enabled z c n b) l.1 on)))
    (λ stays. let sv = so.views in let h = on.0 in keeps z c n so (omega arith) a on stays)
    (is_leave a)

run_sound : (z : Shape) (c : Core) (es : List Event) → Sound z c → AreEnabled z c es
    → Sound z (run z c es)
run_sound z c [] so on = so
run_sound z c (e ∷ es) so on = run_sound z (after z c e.seat e.act) es
    (step_keeps z c e.seat e.act so on.0) on.1

pub always_sound : (z : Shape) (ts : Terms) (es : List Event) → IsShape z → AreTerms z ts
    → AreEnabled z (start z ts) es → Sound z (run z (start z ts) es)
always_sound z ts es shape terms on = run_sound z (start z ts) es
    (start_sound z ts shape terms) on

pub always_good : (z : Shape) (ts : Terms) (es : List Event) → IsShape z → AreTerms z ts
    → AreEnabled z (start z ts) es → Good z (run z (start z ts) es)
always_good z ts es shape terms on = sound_good z _ (always_sound z ts es shape terms on)

pub history_sound : (z : Shape) (ts : Terms) (es : List Event) (c : Core) → IsShape z
    → AreTerms z ts
    → History z ts es c → Sound z c
history_sound z ts [] c shape terms h = subst (Sound z) (sym h) (start_sound z ts shape terms)
history_sound z ts (e ∷ es) c shape terms h =
    let before = history_sound z ts es h.0 shape terms h.1 in
    subst (Sound z) (sym h.2.1) (step_keeps z h.0 e.seat e.act before h.2.0)

pub history_good : (z : Shape) (ts : Terms) (es : List Event) (c : Core) → IsShape z
    → AreTerms z ts
    → History z ts es c → Good z c
history_good z ts es c shape terms h = sound_good z c (history_sound z ts es c shape terms h)

run_history : (z : Shape) (ts : Terms) (hs : List Event) (c : Core) (es : List Event)
    → History z ts hs c → AreEnabled z c es → History z ts (newest_first es hs) (run z c es)
run_history z ts hs c [] h on = h
run_history z ts hs c (e ∷ es) h on =
    run_history z ts (e ∷ hs) (after z c e.seat e.act) es (c, h, (on.0, refl)) on.1

-- a list of events that are enabled in turn is the history of the state after them
pub run_has_history : (z : Shape) (ts : Terms) (es : List Event) → AreEnabled z (start z ts) es
    → History z ts (newest_first es []) (run z (start z ts) es)
run_has_history z ts es on = run_history z ts [] (start z ts) es refl on
