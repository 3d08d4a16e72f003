-- What follows a step that gave up the last reference, and leaves the seat idle again.
use Rattle.std.proofs.Common.{◌≡◌, ◌≢◌, ℕ, Bool, true, false, List, [], ◌∷◌, refl, ap, sym, ◌∙◌, subst}
use Rattle.std.specs.Prelude.{Option, Some, None, if◌then◌else◌}
use Rattle.counted_handles.specs.plain_state.declared.act.PlainAct.TheVariants as plain
use Rattle.counted_handles.specs.plain_state.declared.slot.SlotId.{SlotId}
use Rattle.acquire_retire.specs.plain_protocol.Owns.{HasSlot, Object}
use Rattle.acquire_retire.specs.core_events.declared.act.Act.{Act}
use Rattle.acquire_retire.specs.core_events.declared.outcome.Outcome.{Outcome}
use Rattle.acquire_retire.specs.core_events.declared.outcome.Outcome.TheVariants as outcome
use Rattle.acquire_retire.specs.core_events.declared.view.CoreView.{CoreView}
use Rattle.acquire_retire.specs.core_events.declared.view.Move.{Move}
use Rattle.acquire_retire.specs.core_events.declared.view.Phase.{Phase}
use Rattle.acquire_retire.specs.core_events.declared.view.Phase.TheVariants as phase
use Rattle.acquire_retire.specs.core_events.Shows.{filled, show_seat}
use Rattle.acquire_retire.specs.core_events.ShownSteps.{on_slot, shown_act}
use Rattle.acquire_retire.specs.core_events.Steps.{answer, changed}
use Rattle.acquire_retire.specs.domain_rule.Told.{changed_object, cleared_after}
use Rattle.acquire_retire.specs.Calls.{IsSameView, Steps, same_view}
use Rattle.acquire_retire.specs.Collecting.{move}
use Rattle.acquire_retire.specs.Domains.{DomainState}
use Rattle.acquire_retire.specs.Seats.{SeatState}
use Rattle.control_word.specs.Calls.{with_ended}
use Rattle.control_word.specs.Moves.{Becomes, KnowsStill}
use Rattle.control_word.specs.Resting.{IsAtRest}
use Rattle.control_word.proofs.Becoming.{Comes, bare, calling, comes_one, rest_after}

-- the slot is in the view's lists also where the seat is in the middle of ending or of giving back
has_in_phase : (kept : CoreView) (p : Phase) (t : List Move) → kept.phase ≡ phase.Idle
    → filled p ≡ None → (s : SlotId) → HasSlot (show_seat kept) s
    → HasSlot (show_seat (record kept { phase = p; trail = t })) s
has_in_phase kept p t idle none s has =
    subst (λ f. HasSlot (record (show_seat kept) { filling = f }) s)
    (ap filled idle ∙ sym none) has

-- neither an end nor a giving back changes an object
pub end_keeps : (b : Bool) (x : Option SlotId) (s : SlotId) (o : Object)
    → changed_object (if b then on_slot plain.End x else plain.Still) s o ≡ o
end_keeps true None s o = refl
end_keeps true (Some x) s o = refl
end_keeps false x s o = refl

pub give_keeps : (x : Option SlotId) (s : SlotId) (o : Object)
    → changed_object (on_slot plain.Give x) s o ≡ o
give_keeps None s o = refl
give_keeps (Some x) s o = refl

module _ {P V : Type 0} {fits : List ℕ → Type 0} (d : DomainState P) (kept : CoreView)
    (idle : kept.phase ≡ phase.Idle) where
  -- a step that follows, from a phase of this kind
  pub follows : (a : Act) (p : Phase) (t : List Move) (old new : SeatState V) (o x : Outcome) (w : ℕ)
      (v : CoreView) → old.view.core ≡ record kept { phase = p; trail = t } → filled p ≡ None
      → Steps fits d same_view IsSameView a old new o → o ≡ x
      → answer d.shape a w (record kept { phase = p; trail = t }) ≡ x
      → bare (changed d.shape a w (record kept { phase = p; trail = t })) ≡ bare v
      → cleared_after a old.view.core old.view.cleared ≡ old.view.cleared
      → ((w : ℕ) (s : SlotId) (it : Object)
      → changed_object (shown_act d.shape a w old.view.core) s it ≡ it)
      → Comes fits d (move a x ∷ []) v kept old new
  follows a p t old new o x w v at none step is answers sets clears same =
      comes_one d a old new x w v kept
      (subst (λ (y : Outcome). Steps fits d same_view IsSameView a old new y) is step)
      (ap (answer d.shape a w) at ∙ answers)
      (ap (λ (u : CoreView). bare (changed d.shape a w u)) at ∙ sets) clears
      (λ s has. subst (λ (u : CoreView). HasSlot (show_seat u) s) (sym at)
      (has_in_phase kept p t idle none s has))
      same

module _ {P V : Type 0} {fits : List ℕ → Type 0} (d : DomainState P) where
  -- a step that gives up a reference to the slot of a handle
  pub gives_up : (a : SlotId → Act) (s t : SlotId) → t ≡ s → (old new : SeatState V)
      (o x : Outcome) (w : ℕ) (v kept : CoreView) → Steps fits d same_view IsSameView (a t) old new o
      → o ≡ x → answer d.shape (a s) w old.view.core ≡ x
      → bare (changed d.shape (a s) w old.view.core) ≡ bare v
      → cleared_after (a s) old.view.core old.view.cleared ≡ old.view.cleared
      → ((y : SlotId) → HasSlot (show_seat kept) y → HasSlot (show_seat old.view.core) y)
      → ((n : ℕ) (y : SlotId) (it : Object)
      → changed_object (shown_act d.shape (a s) n old.view.core) y it ≡ it)
      → Comes fits d (move (a s) x ∷ []) v kept old new
  gives_up a s t same old new o x w v kept step is =
      comes_one d (a s) old new x w v kept
      (subst (λ (y : SlotId × Outcome). Steps fits d same_view IsSameView (a y.0) old new y.1)
      (λ i. (same i, is i)) step)

  -- a call without a deed that is over
  pub over : (ms : List Move) (v kept : CoreView) (old new : SeatState V) → IsAtRest d old
      → calling v ≡ calling old.view.core → Comes fits d ms v kept old new
      → Becomes fits d same_view IsSameView ms v old new × (new.view.client ≡ old.view.client)
      × KnowsStill kept old new × IsAtRest d new
  over ms v kept old new rest same comes =
      (comes.by, comes.client, comes.knows, rest_after d ms v old new comes.by same rest)

-- what else an answer can be
pub or_left : (b : Bool) (o : Outcome) → (if b then o else outcome.Left) ≢ o
    → (if b then o else outcome.Left) ≡ outcome.Left
or_left true o not = absurd (not refl)
or_left false o not = refl

-- a seat that is idle again, with or without an object that it ended
pub idle_again : (v : CoreView) (s : SlotId) → v.phase ≡ phase.Idle → (ended : Bool) (t : List Move)
    → bare (record (with_ended ended s v) { phase = phase.Idle; trail = t })
    ≡ bare (with_ended ended s v)
idle_again v s idle true t =
    ap (λ (p : Phase). bare (record (with_ended true s v) { phase = p })) (sym idle)
idle_again v s idle false t = ap (λ (p : Phase). bare (record v { phase = p })) (sym idle)
