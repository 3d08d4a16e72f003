-- What is kept of a core: at the start, and after an event or a refusal.
use Rattle.std.proofs.Common.{◌≡◌, ℕ, ◌≤◌, ◌^◌, List, Result, Ok, Err, sum, sym, subst}
use Rattle.std.specs.Prelude.{OnOk, OnErr}
use Rattle.core_law.specs.core_events.declared.act.Act.{Act}
use Rattle.core_law.specs.core_events.declared.act.Event.{Event}
use Rattle.core_law.specs.core_events.declared.shape.Shape.{Shape}
use Rattle.core_law.specs.core_events.Good.{Good}
use Rattle.core_law.specs.core_events.Views.{Terms}
use Rattle.core_law.specs.core_events.Runs.{AreTerms, Enabled, Core, IsShape, after, start}
use Rattle.core_law.proofs.Always.{step_keeps}
use Rattle.core_law.proofs.Parts.{sound_good}
use Rattle.core_law.proofs.Starts.{start_sound}
use Rattle.cdrc_core.specs.Kept.{Kept}
use Rattle.cdrc_core.specs.State.{State}
use Rattle.core_law.proofs.Grants.{first_few, grants_after}

start_kept : (z : Shape) (ts : Terms) → IsShape z → AreTerms z ts → Kept z (start z ts)
start_kept z ts h q = record {
  sound = start_sound z ts h q;
  grants = λ n. first_few z 0 ts.quotas ts.grants n q.2;
}

pub started_kept : (s : State) (z : Shape) (ts : Terms) → s ≡ record { shape = z; core = start z ts }
    → IsShape z × AreTerms z ts → Kept s.shape s.core
started_kept s z ts is h =
    subst (λ (u : State). Kept u.shape u.core) (sym is) (start_kept z ts h.0 h.1)

kept_after : (z : Shape) (c : Core) (n : ℕ) (a : Act) → Kept z c → Enabled z c n a
    → Kept z (after z c n a)
kept_after z c n a k on = record {
  sound = step_keeps z c n a k.sound on;
  grants = λ m. let P : List ℕ → Type 0 = λ gs. sum gs ≤ 2 ^ 40 in
      subst P (sym (grants_after z c n m a)) (k.grants m);
}

pub step_kept : (s t : State) (e : Event) {T E : Type 0} (r : Result T E)
    → OnOk r (Enabled s.shape s.core e.seat e.act)
    → OnOk r (t ≡ record s { core = after s.shape s.core e.seat e.act }) → OnErr r (t ≡ s)
    → Kept s.shape s.core → Kept t.shape t.core
step_kept s t e (Ok x) on is same k =
    subst (λ (u : State). Kept u.shape u.core) (sym is)
    (kept_after s.shape s.core e.seat e.act k on)
step_kept s t e (Err x) on is same k =
    subst (λ (u : State). Kept u.shape u.core) (sym same) k

pub core_good : (z : Shape) (c : Core) → Kept z c → Good z c
core_good z c k = sound_good z c k.sound
