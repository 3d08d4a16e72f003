-- Whatever an event does, it joins the trail of its seat, and so do the events of a walk.
use Rattle.std.proofs.Common.{◌≡◌, ◌∙◌, ℕ, ◌+◌, Bool, true, false, List, [], ◌∷◌, ◌++◌, Option, Some, None, append_assoc, refl, ap, sym}
use Rattle.std.specs.Prelude.{◌==◌, ◌&&◌, nat_lt, not, if◌then◌else◌}
use Rattle.std.proofs.lemmas.List.{append-nil}
use Rattle.epoch_refs.specs.plain_protocol.plain_state.declared.slot.SlotId.{SlotId}
use Rattle.epoch_refs.specs.plain_protocol.plain_state.declared.act.PlainAct.{PlainAct}
use Rattle.epoch_refs.specs.plain_protocol.plain_state.State.{Plain}
use Rattle.epoch_refs.specs.plain_protocol.plain_state.Steps.{word_of}
use Rattle.epoch_refs.specs.plain_protocol.Owns.{OwnPart}
use Rattle.epoch_refs.specs.epoch_core.core_events.Views.{without}
use Rattle.epoch_refs.specs.epoch_core.core_events.Words.{slot_in}
use Rattle.epoch_refs.specs.epoch_core.declared.act.EpochAct.{EpochAct}
use Rattle.epoch_refs.specs.epoch_core.declared.act.EpochAct.TheVariants as act
use Rattle.epoch_refs.specs.epoch_core.declared.outcome.EpochOutcome.{EpochOutcome}
use Rattle.epoch_refs.specs.epoch_core.declared.shape.EpochShape.{EpochShape}
use Rattle.epoch_refs.specs.epoch_core.declared.view.EpochMove.{EpochMove}
use Rattle.epoch_refs.specs.epoch_core.declared.view.EpochPhase.{EpochPhase}
use Rattle.epoch_refs.specs.epoch_core.declared.view.EpochPhase.TheVariants as phase
use Rattle.epoch_refs.specs.epoch_core.declared.view.EpochView.{EpochView}
use Rattle.epoch_refs.specs.epoch_core.Steps.{answer, changed, ended_by, gave, is_fit, saw, scanned, swept, took, without_dated}
use Rattle.epoch_refs.specs.epoch_core.Words.{free_word, last_epoch}
use Rattle.epoch_refs.specs.epoch_domain.Calls.{Steps}
use Rattle.epoch_refs.specs.epoch_domain.Domains.{DomainState}
use Rattle.epoch_refs.specs.epoch_domain.Seats.{SeatState}
use Rattle.epoch_refs.specs.Walks.{Walks, move}

-- of two views with one trail it has one
either_trail : (b : Bool) (u w v : EpochView) → u.trail ≡ v.trail → w.trail ≡ v.trail
    → (if b then u else w).trail ≡ v.trail
either_trail true u w v this that = this
either_trail false u w v this that = that

pub took_trail : (c : Option SlotId) (v : EpochView) → (took c v).trail ≡ v.trail
took_trail None v = refl
took_trail (Some s) v = refl

pub gave_trail : (c : Option SlotId) (v : EpochView) → (gave c v).trail ≡ v.trail
gave_trail None v = refl
gave_trail (Some s) v = refl

pub saw_trail : (c : Option SlotId) (v : EpochView) → (saw c v).trail ≡ v.trail
saw_trail None v = refl
saw_trail (Some s) v = refl

ended_trail : (w : ℕ) (s : SlotId) (v : EpochView) → (ended_by w s v).trail ≡ v.trail
ended_trail w s v = either_trail (w == 1) (record v { dying = v.dying ++ s ∷ [] }) v v refl refl

swept_trail : (z : EpochShape) (e i : ℕ) (fit : Bool) (v : EpochView)
    → (swept z e i fit v).trail ≡ v.trail
swept_trail z e i fit v =
    either_trail (i == z.seats && not (fit && nat_lt e last_epoch))
    (record v { known = e; phase = phase.Idle })
    (record v { phase = phase.Scan (record { epoch = e; passed = i; fit = fit }) }) v refl refl

scanned_trail : (z : EpochShape) (w : ℕ) (p : EpochPhase) (v : EpochView)
    → (scanned z w p v).trail ≡ v.trail
scanned_trail z w phase.Idle v = refl
scanned_trail z w (phase.Entering e) v = refl
scanned_trail z w (phase.Undated s) v = refl
scanned_trail z w (phase.Blank s) v = refl
scanned_trail z w (phase.Scan x) v =
    swept_trail z x.epoch (x.passed + 1) (x.fit && is_fit x.epoch w) v

-- an act leaves the trail that was there
changed_trail : (z : EpochShape) (a : EpochAct) (w : ℕ) (v : EpochView)
    → (changed z a w v).trail ≡ v.trail
changed_trail z (act.Claim s) w v =
    either_trail (w == free_word) (record v { makes = v.makes + 1; phase = phase.Blank s }) v v refl
    refl
changed_trail z (act.Fill i x) w v = refl
changed_trail z act.Start w v = refl
changed_trail z (act.See s i) w v = refl
changed_trail z (act.Add s) w v = refl
changed_trail z (act.Drop s) w v =
    ended_trail w s (record v { owned = without s v.owned })
changed_trail z (act.Pay d) w v =
    ended_trail w d.slot (record v { pending = without_dated d v.pending })
changed_trail z (act.Free s) w v = refl
changed_trail z (act.Look p) w v = saw_trail (slot_in w) v
changed_trail z (act.Swap p new) w v =
    took_trail (slot_in w) (gave new v) ∙ gave_trail new v
changed_trail z (act.Cas p old new) w v =
    either_trail (w == word_of old) (took (slot_in w) (gave new v)) v v
    (took_trail (slot_in w) (gave new v) ∙ gave_trail new v) refl
changed_trail z (act.Clear s i) w v = took_trail (slot_in w) v
changed_trail z act.Date w v = refl
changed_trail z act.Enter w v = refl
changed_trail z act.Open w v = refl
changed_trail z act.Exit w v = refl
changed_trail z act.Flush w v = refl
changed_trail z act.Scan w v = scanned_trail z w v.phase v
changed_trail z act.Advance w v = refl
changed_trail z (act.Leave j) w v = refl

-- events after events
pub then_events : (t u w xs ys : List EpochMove) → u ≡ t ++ xs → w ≡ u ++ ys → w ≡ t ++ (xs ++ ys)
then_events t u w xs ys first second =
    second ∙ (ap (λ (zs : List EpochMove). zs ++ ys) first ∙ append_assoc t xs ys)

module _ {P V : Type 0} (fits : List ℕ → Type 0) (d : DomainState P) where
  pub step_trail : {next : OwnPart → OwnPart → V → PlainAct → ℕ → V}
      {allows : Plain → Plain → ℕ → V → V → Type 0} {a : EpochAct} {o : EpochOutcome}
      {old new : SeatState V} → Steps fits d next allows a old new o
      → new.view.core.trail ≡ old.view.core.trail ++ move a o ∷ []
  step_trail {a = a} {old = old} step =
      ap (λ (v : EpochView). v.trail) step.told.core
      ∙ (ap (λ (t : List EpochMove). t ++ move a (answer a step.word old.view.core) ∷ [])
      (changed_trail d.shape a step.word old.view.core)
      ∙ ap (λ (p : EpochOutcome). old.view.core.trail ++ move a p ∷ []) (sym step.answers))

  pub walks_trail : (moves : List EpochMove) (old new : SeatState V)
      → Walks fits d moves old new → new.view.core.trail ≡ old.view.core.trail ++ moves
  walks_trail [] old new same =
      ap (λ (s : SeatState V). s.view.core.trail) same ∙ sym (append-nil old.view.core.trail)
  walks_trail (m ∷ moves) old new walks =
      then_events old.view.core.trail walks.0.view.core.trail new.view.core.trail (m ∷ []) moves
      (step_trail walks.1) (walks_trail moves walks.0 new walks.2)
