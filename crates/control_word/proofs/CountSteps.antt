-- The steps that count the references to a slot that the seat holds.
use Rattle.std.proofs.Common.{◌≡◌, ◌≢◌, ℕ, Bool, true, false, List, [], ◌∷◌, refl, ap, sym, ◌∙◌, subst}
use Rattle.std.specs.Prelude.{◌==◌, slice_index, if◌then◌else◌}
use Rattle.counted_handles.specs.plain_state.declared.act.PlainAct.{PlainAct}
use Rattle.counted_handles.specs.plain_state.declared.slot.SlotId.{SlotId}
use Rattle.counted_handles.specs.plain_state.State.{Plain}
use Rattle.acquire_retire.specs.plain_protocol.Owns.{OwnPart}
use Rattle.acquire_retire.specs.core_events.declared.act.Act.TheVariants as act
use Rattle.acquire_retire.specs.core_events.declared.outcome.Outcome.{Outcome}
use Rattle.acquire_retire.specs.core_events.declared.outcome.Outcome.TheVariants as outcome
use Rattle.acquire_retire.specs.core_events.declared.view.CoreView.{CoreView}
use Rattle.acquire_retire.specs.core_events.declared.view.Phase.{Phase}
use Rattle.acquire_retire.specs.core_events.declared.view.Phase.TheVariants as phase
use Rattle.acquire_retire.specs.core_events.Views.{Holds, of_slot, slot_of}
use Rattle.acquire_retire.specs.core_events.Words.{strong_at}
use Rattle.counted_handles.specs.counter_word.Words.{value}
use Rattle.acquire_retire.specs.Calls.{IsSameView, Steps, same_view}
use Rattle.acquire_retire.specs.Collecting.{move}
use Rattle.acquire_retire.specs.Domains.{DomainState}
use Rattle.acquire_retire.specs.Seats.{SeatState}
use Rattle.control_word.specs.Calls.{CountsStrong, CountsWeak, counted_by}
use Rattle.control_word.specs.Moves.{Becomes}
use Rattle.control_word.proofs.Becoming.{bare, core_after, more_steps, one_step}
use Rattle.control_word.proofs.Finding.{strong_word, weak_word}

-- a count that didn't answer Again answers what the word counts
or_number : (w : ℕ) → (if w == 0 then outcome.Again else outcome.Number (value w)) ≢ outcome.Again
    → ((w == 0) ≡ false)
    × ((if w == 0 then outcome.Again else outcome.Number (value w)) ≡ outcome.Number (value w))
or_number w = go (w == 0)
  where
    go : (b : Bool) → (if b then outcome.Again else outcome.Number (value w)) ≢ outcome.Again
        → (b ≡ false)
        × ((if b then outcome.Again else outcome.Number (value w)) ≡ outcome.Number (value w))
    go true not = absurd (not refl)
    go false not = (refl, refl)

module _ {P V : Type 0} {fits : List ℕ → Type 0} (d : DomainState P) (old new : SeatState V)
    (s : SlotId) where
  pub counts_weak : (o : Outcome) (n : ℕ) → Steps fits d same_view IsSameView (act.Wcount s) old new o
      → o ≡ outcome.Word n → Holds old.view.core s → CountsWeak fits d s n old new
  counts_weak o n step is held =
      finds (one_step d (act.Wcount s) old new (outcome.Word n) n old.view.core
      (subst (λ (x : Outcome). Steps fits d same_view IsSameView (act.Wcount s) old new x) is step)
      refl refl refl)
    where
      finds : (by : Becomes fits d same_view IsSameView (move (act.Wcount s) (outcome.Word n) ∷ [])
          old.view.core old new)
          → CountsWeak fits d s n old new
      finds by =
          let count = by.walks.1 in
          let word : n ≡ count.word = cc (count.answers) in
          record {
            becomes = by;
            count = weak_word count.told s held count.told.happened.found ∙ sym word;
          }

module _ {P V : Type 0} {fits : List ℕ → Type 0} (d : DomainState P)
    {next : OwnPart → OwnPart → V → PlainAct → ℕ → V}
    {allows : Plain → Plain → ℕ → V → V → Type 0} (s : SlotId) (old : SeatState V)
    (held : Holds old.view.core s) where
  -- the number that a count answers, or the mark after it, is that of the strong references
  counts : (new : SeatState V) (n : ℕ) (again : Bool)
      → Becomes fits d next allows (counted_by s n again) old.view.core old new
      → CountsStrong fits d next allows s n old new
  counts new n false by =
      let count = by.walks.1 in
      let answers = or_number count.word (λ e. absurd (cc (count.answers, e))) in
      let is : n ≡ value count.word = cc (count.answers, answers.1) in
      record {
        again = false;
        becomes = by;
        count = sym (is ∙ strong_word count.told s held count.told.happened.found);
      }
  counts new n true by =
      let mid = by.walks.0.view.core in
      let mark = by.walks.2.1 in
      let core = core_after d (act.Count s) old by.walks.0 outcome.Again 0 by.walks.1 refl in
      let phase_is : mid.phase ≡ phase.Zero s = ap (λ (v : CoreView). v.phase) core in
      let still : Holds mid s = subst (λ (v : CoreView). Holds v s) (sym core) held in
      let before = mark.told.happened.before in
      let at = ap (λ (p : Phase). slice_index before.words (of_slot (strong_at d.shape) (slot_of p)))
      (ap (λ (v : CoreView). v.phase) (sym mark.told.happened.view) ∙ phase_is) in
      let is : n ≡ value mark.word = cc (mark.answers) in
      record {
        again = true;
        becomes = by;
        count = sym (is ∙ strong_word mark.told s still (mark.told.happened.found ∙ at));
      }

  pub counts_at_once : (new : SeatState V) (o : Outcome) (n : ℕ)
      → Steps fits d next allows (act.Count s) old new o → o ≢ outcome.Again
      → ((m : ℕ) → o ≡ outcome.Number m → n ≡ m) → CountsStrong fits d next allows s n old new
  counts_at_once new o n step not number =
      let is = or_number step.word (λ e. not (step.answers ∙ e)) in
      let m = number (value step.word) (step.answers ∙ is.1) in
      let by = one_step d (act.Count s) old new o step.word old.view.core step (sym step.answers)
      (rw is.0 refl) refl in
      counts new n false
      (subst (λ (x : Outcome). Becomes fits d next allows (move (act.Count s) x ∷ []) old.view.core
      old new)
      (step.answers ∙ is.1 ∙ ap outcome.Number (sym m)) by)

  pub counts_by_mark : (mid new : SeatState V) (o p : Outcome) (n : ℕ)
      → old.view.core.phase ≡ phase.Idle
      → Steps fits d next allows (act.Count s) old mid o → o ≡ outcome.Again
      → Steps fits d next allows act.Mark mid new p → ((m : ℕ) → p ≡ outcome.Number m → n ≡ m)
      → CountsStrong fits d next allows s n old new
  counts_by_mark mid new o p n idle count again mark number =
      let zero = record old.view.core { phase = phase.Zero s } in
      let count' = subst (λ (x : Outcome). Steps fits d next allows (act.Count s) old mid x) again
      count in
      let first = one_step d (act.Count s) old mid outcome.Again 0 zero count' refl refl refl in
      let m = number (value mark.word) mark.answers in
      let mark' = subst (λ (x : Outcome). Steps fits d next allows act.Mark mid new x)
      (mark.answers ∙ ap outcome.Number (sym m)) mark in
      let second = one_step d act.Mark mid new (outcome.Number n) mark.word old.view.core mark'
      (ap outcome.Number (sym m))
      (ap (λ (v : CoreView). bare (record v { phase = phase.Idle })) first.core
      ∙ ap (λ (q : Phase). bare (record old.view.core { phase = q })) (sym idle)) refl in
      counts new n true
      (more_steps d (move (act.Count s) outcome.Again ∷ []) (move act.Mark (outcome.Number n) ∷ [])
      zero old.view.core old mid new first second)
