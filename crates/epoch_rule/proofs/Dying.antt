-- A slot that waits in a seat's dying list stays there until the seat gives it back.
use Rattle.std.proofs.Common.{◌≡◌, ◌≢◌, ℕ, ◌+◌, ◌<◌, ◌≤◌, Bool, true, false, refl, sym, arith}
use Rattle.std.specs.Prelude.{◌==◌, ◌&&◌, nat_lt, not, if◌then◌else◌, Option, Some, None}
use Rattle.plain_protocol.specs.plain_state.declared.slot.SlotId.{SlotId}
use Rattle.plain_protocol.specs.plain_state.Lists.{times}
use Rattle.plain_protocol.specs.plain_state.Steps.{word_of}
use Rattle.core_law.specs.core_events.Words.{slot_in}
use Rattle.core_law.proofs.Kit.{one_other, times_push, times_without}
use Rattle.epoch_core.specs.declared.act.EpochAct.{EpochAct}
use Rattle.epoch_core.specs.declared.act.EpochAct.TheVariants as act
use Rattle.epoch_core.specs.declared.shape.EpochShape.{EpochShape}
use Rattle.epoch_core.specs.declared.view.EpochPhase.{EpochPhase}
use Rattle.epoch_core.specs.declared.view.EpochPhase.TheVariants as phase
use Rattle.epoch_core.specs.declared.view.EpochView.{EpochView}
use Rattle.epoch_core.specs.Steps.{changed, ended_by, gave, is_fit, saw, scanned, took}
use Rattle.epoch_core.specs.Words.{free_word, last_epoch}

module _ (s : SlotId) (v : EpochView) where
  -- the slot stands in the dying list of u as often as in that of v
  abbrev Waits : EpochView → Type 0
  Waits u = times s v.dying ≤ times s u.dying

  pick : (b : Bool) (x y : EpochView) → Waits x → Waits y → Waits (if b then x else y)
  pick true x y left right = left
  pick false x y left right = right

  ends : (w : ℕ) (x : SlotId) (u : EpochView) → Waits u → Waits (ended_by w x u)
  ends w x u waits = pick (w == 1) _ _ (let p = times_push s x u.dying in omega arith) waits

  takes : (o : Option SlotId) (u : EpochView) → Waits u → Waits (took o u)
  takes None u waits = waits
  takes (Some x) u waits = waits

  gives : (o : Option SlotId) → Waits (gave o v)
  gives None = omega arith
  gives (Some x) = omega arith

  sees : (o : Option SlotId) → Waits (saw o v)
  sees None = omega arith
  sees (Some x) = omega arith

  scans : (z : EpochShape) (w : ℕ) (p : EpochPhase) → Waits (scanned z w p v)
  scans z w phase.Idle = omega arith
  scans z w (phase.Entering e) = omega arith
  scans z w (phase.Undated x) = omega arith
  scans z w (phase.Blank x) = omega arith
  scans z w (phase.Scan x) =
      pick (x.passed + 1 == z.seats && not ((x.fit && is_fit x.epoch w) && nat_lt x.epoch last_epoch))
      _ _ (omega arith) (omega arith)

  pub dying_stays : (z : EpochShape) (a : EpochAct) (w : ℕ)
      → ((x : SlotId) → a ≡ act.Free x → (s.0 ≢ x.0) × (0 < times x v.dying))
      → Waits (changed z a w v)
  dying_stays z (act.Claim x) w other = pick (w == free_word) _ _ (omega arith) (omega arith)
  dying_stays z (act.Drop x) w other = ends w x _ (omega arith)
  dying_stays z (act.Pay d) w other = ends w d.slot _ (omega arith)
  dying_stays z (act.Free x) w other =
      let o = other x refl in
      let n = one_other s x (λ e. o.0 (sym e)) in
      let t = times_without s x v.dying o.1 in omega arith
  dying_stays z (act.Look p) w other = sees (slot_in w)
  dying_stays z (act.Swap p new) w other = takes (slot_in w) (gave new v) (gives new)
  dying_stays z (act.Cas p old new) w other =
      pick (w == word_of old) _ _ (takes (slot_in w) (gave new v) (gives new)) (omega arith)
  dying_stays z (act.Clear x i) w other = takes (slot_in w) v (omega arith)
  dying_stays z act.Scan w other = scans z w v.phase
  dying_stays z a w other = omega arith
