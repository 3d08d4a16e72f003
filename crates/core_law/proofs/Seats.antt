-- The seat of an event that is enabled is there, and hasn't left.
use Rattle.std.proofs.Common.{◌≡◌, ⊎_elim, ℕ, Bool, true, false, refl, ap, ◌∙◌, arith}
use Rattle.std.proofs.lemmas.List.{length-map}
use Rattle.core_events.specs.plain_state.State.{PlainSeat}
use Rattle.core_events.specs.plain_state.Steps.{IsSeat}
use Rattle.core_events.specs.declared.act.Act.{Act}
use Rattle.core_events.specs.declared.act.Act.TheVariants as act
use Rattle.core_events.specs.declared.shape.Shape.{Shape}
use Rattle.core_events.specs.declared.view.CoreView.{CoreView}
use Rattle.core_events.specs.declared.view.Phase.TheVariants as phase
use Rattle.core_events.specs.Good.{SeatLaw}
use Rattle.core_events.specs.Runs.{Core, Enabled, view_at}
use Rattle.core_events.specs.Shows.{shows, show_seat}
use Rattle.core_events.specs.Steps.{May}
use Rattle.core_law.specs.Sound.{Sound}
use Rattle.core_law.proofs.Steady.{not_left}
use Rattle.core_law.proofs.Bridge.{shown_seat}

-- a seat that is in the middle of something hasn't left
busy_stays : (z : Shape) (n : ℕ) (v : CoreView) → SeatLaw z n v → (v.phase ≡ phase.Idle → ⊥)
    → v.left ≡ false
busy_stays z n v law busy = go v.left refl
  where
    go : (b : Bool) → v.left ≡ b → v.left ≡ false
    go true e = absurd (not_left z n v law busy e)
    go false e = e

-- no act is open to a seat that has left
may_stays : (z : Shape) (n : ℕ) (v : CoreView) → SeatLaw z n v → (a : Act) → May z a v
    → v.left ≡ false
may_stays z n v law act.Finish may = busy_stays z n v law (λ e. absurd (cc (may.1, e)))
may_stays z n v law act.Take may = busy_stays z n v law (λ e. absurd (cc (may.1, e)))
may_stays z n v law act.Mark may = busy_stays z n v law (λ e. absurd (cc (may.1, e)))
may_stays z n v law act.Scan may = ⊎_elim (λ idle. idle.0.1)
    (λ scans. busy_stays z n v law (λ e. absurd (cc (scans, e)))) may
may_stays z n v law act.Arm may = busy_stays z n v law (λ e. absurd (cc (may.1, e)))
may_stays z n v law (act.Fill i x) may = busy_stays z n v law (λ e. absurd (cc (may.0.1, e)))
may_stays z n v law act.Start may = busy_stays z n v law (λ e. absurd (cc (may.1, e)))
may_stays z n v law act.Free may = busy_stays z n v law (λ e. absurd (cc (may.1, e)))
may_stays z n v law (act.Leave j) may = may.3.0.1
may_stays z n v law a may = may.0.1

pub enabled_seat : (z : Shape) (c : Core) (n : ℕ) (a : Act) → Sound z c → Enabled z c n a
    → IsSeat (shows z c) n
enabled_seat z c n a so on =
    let sv = so.views in
    let h = on.0 in
    let l = length-map c.views show_seat in (
      omega arith,
      ap (λ (y : PlainSeat). y.left) (shown_seat z c n on.0)
          ∙ may_stays z n (view_at c n) (so.seats n (omega arith)) a on.1,
    )
