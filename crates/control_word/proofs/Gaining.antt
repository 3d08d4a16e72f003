-- One step that counts a reference more, or finds that the object has ended.
use Rattle.std.proofs.Common.{◌≡◌, ◌≢◌, ℕ, Bool, true, false, List, [], ◌∷◌, refl, sym, ◌∙◌, subst, arith}
use Rattle.std.specs.Prelude.{nat_lt, if◌then◌else◌}
use Rattle.counted_handles.specs.plain_state.declared.act.PlainAct.{PlainAct}
use Rattle.counted_handles.specs.plain_state.declared.slot.SlotId.{SlotId}
use Rattle.counted_handles.specs.plain_state.State.{Plain}
use Rattle.acquire_retire.specs.plain_protocol.Owns.{OwnPart}
use Rattle.acquire_retire.specs.core_events.declared.act.Act.TheVariants as act
use Rattle.acquire_retire.specs.core_events.declared.outcome.Outcome.{Outcome}
use Rattle.acquire_retire.specs.core_events.declared.outcome.Outcome.TheVariants as outcome
use Rattle.acquire_retire.specs.core_events.declared.view.CoreView.{CoreView}
use Rattle.acquire_retire.specs.core_events.Steps.{answer, changed}
use Rattle.acquire_retire.specs.core_events.Views.{Holds, HoldsStrongly}
use Rattle.counted_handles.specs.counter_word.Words.{ZERO}
use Rattle.acquire_retire.specs.Calls.{IsSameView, Steps, same_view}
use Rattle.acquire_retire.specs.Collecting.{move}
use Rattle.acquire_retire.specs.Domains.{DomainState}
use Rattle.acquire_retire.specs.Seats.{SeatState}
use Rattle.control_word.specs.Calls.{FindsEnded, GainsWeak, GainsStrong, with_add, with_strong, with_weak}
use Rattle.control_word.specs.Moves.{Becomes, KnowsStill}
use Rattle.control_word.specs.Resting.{IsAtRest}
use Rattle.control_word.proofs.Becoming.{bare, calling, knows_after, one_step, rest_after}
use Rattle.control_word.proofs.Finding.{counting, flagged, strong_some, strong_word}

or_dead : (w : ℕ) → (if nat_lt w ZERO then outcome.Up else outcome.Dead) ≢ outcome.Up
    → (if nat_lt w ZERO then outcome.Up else outcome.Dead) ≡ outcome.Dead
or_dead w = go (nat_lt w ZERO)
  where
    go : (b : Bool) → (if b then outcome.Up else outcome.Dead) ≢ outcome.Up
        → (if b then outcome.Up else outcome.Dead) ≡ outcome.Dead
    go true not = absurd (not refl)
    go false not = refl

module _ {P V : Type 0} {fits : List ℕ → Type 0} (d : DomainState P)
    {next : OwnPart → OwnPart → V → PlainAct → ℕ → V}
    {allows : Plain → Plain → ℕ → V → V → Type 0} (old new : SeatState V) (s t : SlotId)
    (same : t ≡ s) (o : Outcome) (step : Steps fits d next allows (act.Add t) old new o)
    (rest : IsAtRest d old) where
  -- the add, to the slot that the handle names and with this answer
  add_to : (x : Outcome) → o ≡ x → Steps fits d next allows (act.Add s) old new x
  add_to x is =
      subst (λ (y : SlotId × Outcome). Steps fits d next allows (act.Add y.0) old new y.1)
      (λ i. (same i, is i)) step

  -- what an add leaves that answered so
  adds : (x : Outcome) (w : ℕ) (v : CoreView) → o ≡ x → answer d.shape (act.Add s) w old.view.core ≡ x
      → bare (changed d.shape (act.Add s) w old.view.core) ≡ bare v
      → calling v ≡ calling old.view.core
      → Becomes fits d next allows (move (act.Add s) x ∷ []) v old new
      × KnowsStill old.view.core old new × IsAtRest d new
  adds x w v is answers sets call =
      let by = one_step d (act.Add s) old new x w v (add_to x is) answers sets refl in (
        by,
        knows_after d (act.Add t) old new o old.view.core step (λ y has. has) (λ n y it. refl),
        rest_after d (move (act.Add s) x ∷ []) v old new by call rest,
      )

  -- one that counted
  pub counted : o ≡ outcome.Up
      → GainsStrong fits d next allows s old new × KnowsStill old.view.core old new × IsAtRest d new
  counted up = adds outcome.Up 0 (with_strong s old.view.core) up refl refl refl

  -- an add to a slot that the seat holds strongly counts
  pub up : HoldsStrongly old.view.core s → o ≡ outcome.Up
  up held =
      let add = add_to o refl in
      let holds : Holds old.view.core s = omega arith in
      let below = counting add.word _ (strong_word add.told s holds add.told.happened.found)
      (strong_some add.told s held) in
      add.answers ∙ rw below refl

  -- one that didn't found the zero flag, and nothing referred to the object strongly
  pub found_ended : o ≢ outcome.Up → Holds old.view.core s
      → FindsEnded fits d next allows s old new × KnowsStill old.view.core old new × IsAtRest d new
  found_ended not held =
      let dead = step.answers ∙ or_dead step.word (λ e. not (step.answers ∙ e)) in
      let r = adds outcome.Dead ZERO (with_add old.view.core) dead refl refl refl in
      (finds r.0 held, r.1, r.2)
    where
      finds : (by : Becomes fits d next allows (move (act.Add s) outcome.Dead ∷ [])
          (with_add old.view.core) old new)
          → Holds old.view.core s → FindsEnded fits d next allows s old new
      finds by held =
          let add = by.walks.1 in
          let f = flagged add.word _ (strong_word add.told s held add.told.happened.found)
          (sym add.answers) in
          record { becomes = by; zero = f.0; none = f.1 }

-- a weak add counts, whatever it finds
pub gains_weak : {P V : Type 0} {fits : List ℕ → Type 0} (d : DomainState P) (old new : SeatState V)
    (s : SlotId) (o : Outcome) → Steps fits d same_view IsSameView (act.Wadd s) old new o
    → IsAtRest d old
    → GainsWeak fits d s old new × KnowsStill old.view.core old new × IsAtRest d new
gains_weak {fits = fits} d old new s o step rest =
    let T : Outcome → Type 0 =
    λ x. Steps fits d same_view IsSameView (act.Wadd s) old new x in
    let by = one_step d (act.Wadd s) old new outcome.Plain 0 (with_weak s old.view.core)
    (subst T step.answers step) refl refl refl in (
      by,
      knows_after d (act.Wadd s) old new o old.view.core step (λ x has. has) (λ w x it. refl),
      rest_after d (move (act.Wadd s) outcome.Plain ∷ []) (with_weak s old.view.core) old new by
          refl rest,
    )
