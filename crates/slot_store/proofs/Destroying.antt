-- The destruction of a ripe slot, and the giving back that may follow.
use Rattle.std.proofs.Common.{◌≡◌, ◌≢◌, ℕ, ◌+◌, ◌<◌, List, Bool, true, false, refl, ap, sym, ◌∙◌, subst}
use Rattle.std.specs.Prelude.{◌==◌, if◌then◌else◌}
use Rattle.protocol_pairs.specs.plain_state.declared.slot.SlotId.{SlotId}
use Rattle.protocol_pairs.specs.plain_state.Lists.{times}
use Rattle.protocol_pairs.specs.plain_state.Places.{held_times}
use Rattle.protocol_pairs.specs.plain_protocol.Owns.{HasSlot}
use Rattle.claim_law.specs.core_events.Shows.{show_seat}
use Rattle.claim_law.specs.core_events.Views.{slot_of}
use Rattle.claim_law.specs.core_events.declared.act.Act.TheVariants as act
use Rattle.claim_law.specs.core_events.declared.outcome.Outcome.{Outcome}
use Rattle.claim_law.specs.core_events.declared.outcome.Outcome.TheVariants as outcome
use Rattle.claim_law.specs.core_events.declared.view.CoreView.{CoreView}
use Rattle.claim_law.specs.core_events.declared.view.Phase.{Phase}
use Rattle.claim_law.specs.core_events.declared.view.Phase.TheVariants as phase
use Rattle.retiring_stores.specs.acquire_retire.Calls.{IsSameView, Steps, same_view}
use Rattle.retiring_stores.specs.acquire_retire.Collecting.{rest_of}
use Rattle.retiring_stores.specs.domain_rule.Views.{object_in}
use Rattle.retiring_stores.specs.acquire_retire.Domains.{DomainState}
use Rattle.retiring_stores.specs.acquire_retire.Seats.{SeatState}
use Rattle.retiring_stores.specs.control_word.Resting.{IsAtRest}
use Rattle.retiring_stores.proofs.Below.control_word_Becoming.{calling, rests_on}
use Rattle.retiring_stores.proofs.Below.control_word_Following.{give_keeps}
use Rattle.slot_store.specs.Reaping.{Destroys, KnowsBoth}
use Rattle.slot_store.proofs.DestroyedFirst.{destroyed_first}
use Rattle.slot_store.proofs.Passing.{has_listed, listed_has}

not_last : (b : Bool) → (if b then outcome.Last else outcome.Left) ≢ outcome.Last → b ≡ false
not_last true not = absurd (not refl)
not_last false not = refl

module _ {P V : Type 0} {fits : List ℕ → Type 0} (d : DomainState P) (s : SlotId)
    (old : SeatState V) (rest : IsAtRest d old) where
  pub destroyed_left : (new : SeatState V) (o : Outcome)
      → Steps fits d same_view IsSameView (act.Destroy s) old new o → o ≢ outcome.Last
      → Destroys fits d s old new × (rest_of new.view.core ≡ rest_of old.view.core)
      × (new.view.client ≡ old.view.client)
      × (new.view.core.retired ≡ old.view.core.retired) × KnowsBoth old new × IsAtRest d new
  destroyed_left new o step not =
      let other = not_last (step.word == 1) (λ e. not (step.answers ∙ e)) in
      let is : o ≡ outcome.Left = step.answers ∙ rw other refl in (
        record {
          mid = new;
          last = false;
          destroys = subst (λ (x : Outcome).
              Steps fits d same_view IsSameView (act.Destroy s) old new x) is step;
          frees = refl;
          first = destroyed_first s (subst (λ (x : Outcome).
              Steps fits d same_view IsSameView (act.Destroy s) old new x) is step).told;
        },
        ap rest_of step.told.core,
        step.told.client,
        ap (λ (v : CoreView). v.retired) step.told.core,
        λ x has still. step.told.objects x has,
        rests_on d old new step.table
            (ap calling step.told.core
            ∙ ap (λ (b : Bool). calling (record old.view.core {
              phase = if b then phase.Give s else phase.Idle;
            })) other
            ∙ ap (λ (p : Phase). calling (record old.view.core { phase = p })) (sym rest.idle.0))
            rest,
      )

  pub destroyed_freed : (mid new : SeatState V) (o p : Outcome)
      → Steps fits d same_view IsSameView (act.Destroy s) old mid o → o ≡ outcome.Last
      → Steps fits d same_view IsSameView act.Free mid new p
      → Destroys fits d s old new × (rest_of new.view.core ≡ rest_of old.view.core)
      × (new.view.client ≡ old.view.client)
      × (new.view.core.retired ≡ old.view.core.retired) × KnowsBoth old new × IsAtRest d new
  destroyed_freed mid new o p step is free = (
    record {
      mid = mid;
      last = true;
      destroys = subst (λ (x : Outcome).
          Steps fits d same_view IsSameView (act.Destroy s) old mid x) is step;
      frees = subst (λ (x : Outcome). Steps fits d same_view IsSameView act.Free mid new x)
          free.answers free;
      first = destroyed_first s (subst (λ (x : Outcome).
          Steps fits d same_view IsSameView (act.Destroy s) old mid x) is step).told;
    },
    ap rest_of free.told.core ∙ ap rest_of step.told.core,
    free.told.client ∙ step.told.client,
    ap (λ (v : CoreView). v.retired) free.told.core
        ∙ ap (λ (v : CoreView). v.retired) step.told.core,
    λ x has still.
        free.told.objects x (has_before x still)
        ∙ give_keeps (slot_of mid.view.core.phase) x (object_in mid.view x)
        ∙ step.told.objects x has,
    rests_on d old new (free.table ∙ step.table)
        (ap calling free.told.core
        ∙ ap (λ (v : CoreView). calling (record v { phase = phase.Idle })) step.told.core
        ∙ ap (λ (q : Phase). calling (record old.view.core { phase = q })) (sym rest.idle.0))
        rest,
  )
    where
      -- what it has after it gave the slot back it had before
      has_before : (x : SlotId) → HasSlot (show_seat new.view.core) x → HasSlot (show_seat mid.view.core) x
      has_before x still =
          let idle = ap (λ (v : CoreView). v.phase) free.told.core in
          let listed = has_listed new.view.core x idle still in
          listed_has mid.view.core x
          (subst (λ (n : ℕ). 0 < n)
          (ap (λ (v : CoreView). held_times x (show_seat v) + times x v.dying) free.told.core) listed)
