-- What an exchange of a place's content keeps of its seat.
use Rattle.std.proofs.Common.{◌≡◌, ℕ, ◌-◌, Bool, true, false, List, [], ◌∷◌, ◌++◌, append_assoc, refl, ap, sym, ◌∙◌, subst, arith}
use Rattle.std.specs.Prelude.{◌==◌, if◌then◌else◌, Option, Some, None}
use Rattle.cell_calls.specs.cell_law.plain_state.declared.slot.SlotId.{SlotId}
use Rattle.cell_calls.specs.Keeping.{Keeps, aside}
use Rattle.epoch_refs.specs.plain_protocol.Owns.{OwnPart}
use Rattle.epoch_refs.specs.plain_protocol.plain_state.State.{Plain}
use Rattle.epoch_refs.specs.plain_protocol.plain_state.declared.act.EventPlace.{EventPlace}
use Rattle.epoch_refs.specs.plain_protocol.plain_state.declared.act.PlainAct.{PlainAct}
use Rattle.epoch_refs.specs.epoch_core.core_events.Views.{without}
use Rattle.epoch_refs.specs.epoch_core.core_events.Words.{slot_in}
use Rattle.epoch_refs.specs.epoch_core.declared.act.EpochAct.{EpochAct}
use Rattle.epoch_refs.specs.epoch_core.declared.act.EpochAct.TheVariants as act
use Rattle.epoch_refs.specs.epoch_core.declared.outcome.EpochOutcome.{EpochOutcome}
use Rattle.epoch_refs.specs.epoch_core.declared.outcome.EpochOutcome.TheVariants as outcome
use Rattle.epoch_refs.specs.epoch_core.declared.view.EpochMove.{EpochMove}
use Rattle.epoch_refs.specs.epoch_core.declared.view.EpochPhase.{EpochPhase}
use Rattle.epoch_refs.specs.epoch_core.declared.view.EpochPhase.TheVariants as phase
use Rattle.epoch_refs.specs.epoch_core.declared.view.EpochView.{EpochView}
use Rattle.epoch_refs.specs.epoch_core.Steps.{changed, dated_with, gave, noted, took}
use Rattle.epoch_refs.specs.epoch_core.Views.{Holds}
use Rattle.epoch_refs.specs.epoch_rule.declared.view.EpochSeatView.{EpochSeatView}
use Rattle.epoch_refs.specs.epoch_rule.Views.{object_in}
use Rattle.epoch_refs.specs.epoch_domain.Calls.{IsSameView, Steps, same_view}
use Rattle.epoch_refs.specs.epoch_domain.Domains.{DomainState}
use Rattle.epoch_refs.specs.epoch_domain.Seats.{SeatState}
use Rattle.epoch_domain.proofs.Below.epoch_rule_Others.{held_has}
use Rattle.epoch_refs.specs.Exchanges.{Dates, IsStored, TakesOut}
use Rattle.epoch_refs.specs.Walks.{move}
use Rattle.cell_making.proofs.Kept.{keeps_core, keeps_from}

found_is : (a b : Option SlotId)
    → ◌≡◌ {A = EpochOutcome} (outcome.Found a) (outcome.Found b) → a ≡ b
found_is a b is = cc (is)

-- an exchange for null was done where it found null, and lost where it found a slot
abbrev said_of : Bool → ℕ → EpochOutcome
said_of b w = if b then outcome.Done else outcome.LostTo (slot_in w)

pub put_none : (w : ℕ) → outcome.Done ≡ said_of (w == 0) w → (w == 0) ≡ true
put_none w is = go (w == 0) refl is
  where
    go : (b : Bool) → (w == 0) ≡ b → outcome.Done ≡ said_of b w → (w == 0) ≡ true
    go true same told = same
    go false other told = absurd (cc (told))

pub lost_some : (w : ℕ) (held : Option SlotId) → outcome.LostTo held ≡ said_of (w == 0) w
    → (w == 0) ≡ false
lost_some w held is = go (w == 0) refl is
  where
    go : (b : Bool) → (w == 0) ≡ b → outcome.LostTo held ≡ said_of b w → (w == 0) ≡ false
    go true same told = absurd (cc (told))
    go false other told = other

module _ {P V : Type 0} (fits : List ℕ → Type 0) (d : DomainState P) where
  -- what was taken is dated, and nothing that a client sees has changed
  pub dates_client : (held : Option SlotId) (between new : SeatState V)
      → Dates fits d held between new → new.view.client ≡ between.view.client
  dates_client None between new is = ap (λ (s : SeatState V). s.view.client) is
  dates_client (Some x) between new dates =
      ap (λ (s : SeatState V). s.view.client) dates.1.2 ∙ dates.1.1.told.client

  module _ (old between new : SeatState V) (idle : old.view.core.phase ≡ phase.Idle)
      (xs : List SlotId) (a : EpochAct) (said : EpochOutcome) where
    -- an exchange that took nothing out
    none_keeps : new ≡ between
        → between.view.core ≡ noted a said (record old.view.core { owned = xs })
        → ((x : SlotId) → Holds old.view.core x → object_in between.view x ≡ object_in old.view x)
        → Keeps 0 0 xs old new
    none_keeps is core knows =
        subst (λ (s : SeatState V). Keeps 0 0 xs old s) (sym is)
        (keeps_core 0 0 old between (record old.view.core { owned = xs }) (move a said ∷ []) core
        refl (omega arith) (omega arith) refl (λ x before after. knows x before))

    -- one that took a slot out, which was dated
    some_keeps : (x : SlotId) (mid : SeatState V) (o : EpochOutcome)
        → Steps fits d same_view IsSameView act.Date between mid o → new ≡ mid
        → between.view.core ≡ noted a said (took (Some x) (record old.view.core { owned = xs }))
        → ((y : SlotId) → Holds old.view.core y → object_in between.view y ≡ object_in old.view y)
        → Keeps 0 0 xs old new
    some_keeps x mid o step is core knows =
        subst (λ (s : SeatState V). Keeps 0 0 xs old s) (sym is)
        (keeps_core 0 0 old mid u (move a said ∷ move act.Date (outcome.Epoch step.word) ∷ []) whole
        (ap (λ (ph : EpochPhase). record (aside old.view.core) { phase = ph }) (sym idle))
        (omega arith) (omega arith) refl
        (λ y before after.
        step.told.objects y (held_has y between.view.core (still y after)) ∙ knows y before))
      where
        u : EpochView
        u = record old.view.core {
          owned = xs;
          pending = old.view.core.pending ++ dated_with step.word (Some x);
          phase = phase.Idle;
        }

        whole : mid.view.core
            ≡ record u {
              trail = old.view.core.trail
                  ++ move a said ∷ move act.Date (outcome.Epoch step.word) ∷ [];
            }
        whole =
            step.told.core
            ∙ ap (λ (v : EpochView). noted act.Date (outcome.Epoch step.word)
            (changed d.shape act.Date step.word v)) core
            ∙ ap (λ (t : List EpochMove). record u { trail = t })
            (append_assoc old.view.core.trail (move a said ∷ [])
            (move act.Date (outcome.Epoch step.word) ∷ []))

        still : (y : SlotId) → Holds mid.view.core y → Holds between.view.core y
        still y after =
            subst (λ (v : EpochView). Holds v y) (sym core)
            (subst (λ (v : EpochView). Holds v y) whole after)

    -- WHAT AN EXCHANGE KEEPS, by what it took out
    pub taken_keeps : (held : Option SlotId) → Dates fits d held between new
        → between.view.core ≡ noted a said (took held (record old.view.core { owned = xs }))
        → ((x : SlotId) → Holds old.view.core x → object_in between.view x ≡ object_in old.view x)
        → Keeps 0 0 xs old new
    taken_keeps None dates core knows = none_keeps dates core knows
    taken_keeps (Some x) dates core knows =
        some_keeps x dates.1.0 (outcome.Epoch dates.0) dates.1.1 dates.1.2 core knows

module _ {P V : Type 0} (fits : List ℕ → Type 0) (d : DomainState P)
    (next : OwnPart → OwnPart → V → PlainAct → ℕ → V)
    (allows : Plain → Plain → ℕ → V → V → Type 0) (old new : SeatState V)
    (idle : old.view.core.phase ≡ phase.Idle) (p : EventPlace) (s : SlotId) where
  -- A STORE gives a reference away
  pub stored_keeps : IsStored fits d next allows (act.Swap p (Some s)) old new
      → Keeps 0 0 (without s old.view.core.owned) old new
  stored_keeps stored =
      let takes = stored.1 in
      let step = takes.exchange in
      let is = takes.reserved.1 in
      let rested = ap (λ (v : EpochSeatView V). v.core.phase) is ∙ idle in
      let held_is = found_is stored.0 (slot_in step.word) step.answers in
      subst (λ (v : EpochSeatView V). Keeps 0 0 (without s v.core.owned) old new) is
      (keeps_from 0 0 (without s takes.ready.view.core.owned) old takes.ready new is
      (taken_keeps fits d takes.ready takes.between new rested
      (without s takes.ready.view.core.owned) (act.Swap p (Some s)) _ stored.0 takes.dates
      (step.told.core
      ∙ ap (λ (h : Option SlotId). noted (act.Swap p (Some s)) (outcome.Found (slot_in step.word))
      (took h (gave (Some s) takes.ready.view.core))) (sym held_is))
      (λ x before. step.told.objects x (held_has x takes.ready.view.core before))))

  -- AN EXCHANGE where null is expected: where it is done it gives a reference away
  pub put_keeps : TakesOut fits d next allows (act.Cas p None (Some s)) outcome.Done None old new
      → Keeps 0 0 (without s old.view.core.owned) old new
  put_keeps takes =
      let step = takes.exchange in
      let is = takes.reserved.1 in
      let rested = ap (λ (v : EpochSeatView V). v.core.phase) is ∙ idle in
      subst (λ (v : EpochSeatView V). Keeps 0 0 (without s v.core.owned) old new) is
      (keeps_from 0 0 (without s takes.ready.view.core.owned) old takes.ready new is
      (taken_keeps fits d takes.ready takes.between new rested
      (without s takes.ready.view.core.owned) (act.Cas p None (Some s)) _ None takes.dates
      (step.told.core ∙ ap (noted (act.Cas p None (Some s)) _)
      (ap (λ b. if b
      then took (if b then None else Some (record { 0 = step.word - 1 }))
      (gave (Some s) takes.ready.view.core)
      else takes.ready.view.core) (put_none step.word step.answers)))
      (λ x before. step.told.objects x (held_has x takes.ready.view.core before))))

  -- where it is lost nothing has changed
  pub lost_keeps : (held : Option SlotId)
      → TakesOut fits d next allows (act.Cas p None (Some s)) (outcome.LostTo held) None old new
      → Keeps 0 0 old.view.core.owned old new
  lost_keeps held takes =
      let step = takes.exchange in
      let is = takes.reserved.1 in
      let rested = ap (λ (v : EpochSeatView V). v.core.phase) is ∙ idle in
      subst (λ (v : EpochSeatView V). Keeps 0 0 v.core.owned old new) is
      (keeps_from 0 0 takes.ready.view.core.owned old takes.ready new is
      (taken_keeps fits d takes.ready takes.between new rested
      takes.ready.view.core.owned (act.Cas p None (Some s)) _ None takes.dates
      (step.told.core ∙ ap (noted (act.Cas p None (Some s)) _)
      (ap (λ b. if b
      then took (slot_in step.word) (gave (Some s) takes.ready.view.core)
      else takes.ready.view.core) (lost_some step.word held step.answers)))
      (λ x before. step.told.objects x (held_has x takes.ready.view.core before))))
