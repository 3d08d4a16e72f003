-- A step of a seat that is alone shows its plain step in the state that the seat knows.
use Rattle.std.proofs.Common.{◌≡◌, ℕ, List, ap, sym, ◌∙◌, subst}
use Rattle.std.specs.Prelude.{IsSome}
use Rattle.protected_loads.specs.plain_state.declared.act.PlainAct.{PlainAct}
use Rattle.protected_loads.specs.plain_state.State.{Plain, seat_at}
use Rattle.protected_loads.specs.plain_state.Steps.{Does}
use Rattle.protected_loads.specs.plain_protocol.Owns.{OwnPart}
use Rattle.protected_loads.specs.core_events.declared.act.Act.{Act}
use Rattle.protected_loads.specs.core_events.declared.outcome.Outcome.{Outcome}
use Rattle.protected_loads.specs.core_events.declared.view.CoreView.{CoreView}
use Rattle.protected_loads.specs.core_events.Good.{SeatLaw}
use Rattle.protected_loads.specs.core_events.Runs.{Core}
use Rattle.protected_loads.specs.core_events.Shows.{show_seat, shows}
use Rattle.protected_loads.specs.core_events.ShownSteps.{shown_act, shown_number}
use Rattle.protected_loads.proofs.Below.core_law_Bridge.{shown_seat}
use Rattle.protected_loads.proofs.Below.core_law_Events.{event_shows}
use Rattle.protected_loads.specs.acquire_retire.Calls.{Steps}
use Rattle.protected_loads.specs.acquire_retire.Domains.{DomainState}
use Rattle.protected_loads.specs.acquire_retire.Seats.{SeatState}
use Rattle.protected_loads.proofs.Below.control_word_Finding.{seat_there, sound_before}
use Rattle.slot_store.proofs.Objects.{known_after, known_before}
use Rattle.lone_heap.specs.Lone.{known_plain}

module _ {P V : Type 0} {fits : List ℕ → Type 0} (d : DomainState P)
    {next : OwnPart → OwnPart → V → PlainAct → ℕ → V}
    {allows : Plain → Plain → ℕ → V → V → Type 0} (a : Act) (old new : SeatState V) (o : Outcome)
    (step : Steps fits d next allows a old new o) where
  -- a step tells what held of its seat
  pub law_before : SeatLaw d.shape old.view.core.seat old.view.core
  law_before =
      subst (λ (v : CoreView). SeatLaw d.shape old.view.core.seat v) (sym step.told.happened.view)
      ((sound_before step.told).seats old.view.core.seat (seat_there step.told))

  module _ (root : old.view.core.seat ≡ 0) (known : IsSome old.view.whole) where
    pub step_does :
        Does (known_plain d old) 0 (shown_act d.shape a step.word old.view.core)
        (shown_number a step.word) (known_plain d new)
    step_does =
        let told = step.told in
        let h = told.happened in
        let n = old.view.core.seat in
        subst (λ (x : Plain × ℕ × ℕ × CoreView × Plain).
        Does x.0 x.1 (shown_act d.shape a x.2 x.3) (shown_number a x.2) x.4)
        (λ i. (
          shows d.shape (sym (known_before told known) i),
          root i,
          sym h.found i,
          sym h.view i,
          shows d.shape (sym (known_after told known) i),
        ))
        (event_shows d.shape h.before n a (sound_before told) h.enabled)

    pub seat_before : seat_at (known_plain d old) 0 ≡ show_seat old.view.core
    seat_before =
        let h = step.told.happened in
        let n = old.view.core.seat in
        ap (λ (c : Core). seat_at (shows d.shape c) 0) (known_before step.told known)
        ∙ ap (λ (m : ℕ). seat_at (shows d.shape h.before) m) (sym root)
        ∙ shown_seat d.shape h.before n h.enabled.0
        ∙ ap show_seat (sym h.view)
