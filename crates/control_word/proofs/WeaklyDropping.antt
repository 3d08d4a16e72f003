-- The steps that give up a weak reference, and give its slot back where it was the last.
use Rattle.std.proofs.Common.{◌≡◌, ◌≢◌, ℕ, ◌<◌, Bool, true, false, List, [], ◌∷◌, ◌++◌, refl, ◌∙◌, arith}
use Rattle.std.specs.Prelude.{◌==◌}
use Rattle.std.proofs.lemmas.Bool.Decides.{nat_tests}
use Rattle.counted_handles.specs.plain_state.declared.slot.SlotId.{SlotId}
use Rattle.counted_handles.specs.plain_state.Lists.{times}
use Rattle.acquire_retire.specs.plain_protocol.Owns.{HasSlot}
use Rattle.acquire_retire.specs.core_events.declared.act.Act.TheVariants as act
use Rattle.acquire_retire.specs.core_events.declared.outcome.Outcome.{Outcome}
use Rattle.acquire_retire.specs.core_events.declared.outcome.Outcome.TheVariants as outcome
use Rattle.acquire_retire.specs.core_events.declared.view.CoreView.{CoreView}
use Rattle.acquire_retire.specs.core_events.declared.view.Phase.TheVariants as phase
use Rattle.acquire_retire.specs.core_events.Shows.{show_seat}
use Rattle.acquire_retire.specs.core_events.Steps.{answer, changed}
use Rattle.acquire_retire.proofs.Below.core_law_Kit.{times_without}
use Rattle.acquire_retire.specs.core_events.Views.{slot_of}
use Rattle.acquire_retire.specs.Calls.{IsSameView, Steps, same_view}
use Rattle.acquire_retire.specs.Collecting.{move}
use Rattle.acquire_retire.specs.Domains.{DomainState}
use Rattle.acquire_retire.specs.Seats.{SeatState}
use Rattle.control_word.specs.Calls.{DropsWeak, weakly_dropped_by, without_weak}
use Rattle.control_word.specs.Moves.{KnowsStill}
use Rattle.control_word.specs.Resting.{IsAtRest}
use Rattle.control_word.proofs.Becoming.{Comes, bare, comes_more}
use Rattle.control_word.proofs.Following.{follows, give_keeps, gives_up, idle_again, or_left, over}

-- what the seat has without one of its weak references it has with it
less_has : (v : CoreView) (s x : SlotId) → 0 < times s v.weaks
    → HasSlot (show_seat (without_weak s v)) x → HasSlot (show_seat v) x
less_has v s x owned has =
    let more = times_without x s v.weaks owned in grind (arith, nat_tests)

-- all that a weak drop leaves
abbrev pub WeaklyDropped : {P V : Type 0} → (List ℕ → Type 0) → DomainState P → SlotId
    → SeatState V → SeatState V → Type 0
WeaklyDropped fits d s old new =
    DropsWeak fits d s old new × (new.view.client ≡ old.view.client)
    × KnowsStill (without_weak s old.view.core) old new × IsAtRest d new

module _ {P V : Type 0} {fits : List ℕ → Type 0} (d : DomainState P) (old : SeatState V)
    (s t : SlotId) (same : t ≡ s) (owned : 0 < times s old.view.core.weaks)
    (rest : IsAtRest d old) where
  -- the weak drop, by its answer
  drops : (new : SeatState V) (o x : Outcome) (w : ℕ) (v : CoreView)
      → Steps fits d same_view IsSameView (act.Wdrop t) old new o → o ≡ x
      → answer d.shape (act.Wdrop s) w old.view.core ≡ x
      → bare (changed d.shape (act.Wdrop s) w old.view.core) ≡ bare v
      → Comes fits d (move (act.Wdrop s) x ∷ []) v (without_weak s old.view.core) old new
  drops new o x w v step is answers sets =
      gives_up d act.Wdrop s t same old new o x w v (without_weak s old.view.core) step is answers
      sets refl (λ y has. less_has old.view.core s y owned has) (λ n y it. refl)

  -- a weak drop that went so, and is over
  dropped : (last : Bool) (new : SeatState V)
      → Comes fits d (weakly_dropped_by s last) (without_weak s old.view.core)
      (without_weak s old.view.core) old new
      → WeaklyDropped fits d s old new
  dropped last new comes =
      let r = over d (weakly_dropped_by s last) (without_weak s old.view.core)
      (without_weak s old.view.core) old new rest refl comes in
      ((last, r.0), r.1, r.2, r.3)

  pub drop_left : (new : SeatState V) (o : Outcome)
      → Steps fits d same_view IsSameView (act.Wdrop t) old new o → o ≢ outcome.Last
      → WeaklyDropped fits d s old new
  drop_left new o step not =
      let is = step.answers ∙ or_left (step.word == 1) outcome.Last (λ e. not (step.answers ∙ e)) in
      dropped false new
      (drops new o outcome.Left 2 (without_weak s old.view.core) step is refl
      (idle_again (without_weak s old.view.core) s rest.idle.0 false []))

  pub drop_freed : (mid new : SeatState V) (o p : Outcome)
      → Steps fits d same_view IsSameView (act.Wdrop t) old mid o → o ≡ outcome.Last
      → Steps fits d same_view IsSameView act.Free mid new p → WeaklyDropped fits d s old new
  drop_freed mid new o p drop is free =
      let kept = without_weak s old.view.core in
      let ms = move (act.Wdrop s) outcome.Last ∷ [] in
      let t = old.view.core.trail ++ ms in
      let first = drops mid o outcome.Last 1 (record kept { phase = phase.Give s }) drop is refl refl in
      dropped true new
      (comes_more d ms (move act.Free outcome.Plain ∷ []) (record kept { phase = phase.Give s }) kept
      kept old mid new first
      (follows d kept rest.idle.0 act.Free (phase.Give s) t mid new p outcome.Plain 0 kept
      first.by.core refl free free.answers refl (idle_again kept s rest.idle.0 false t) refl
      (λ n y it. give_keeps (slot_of mid.view.core.phase) y it)))
