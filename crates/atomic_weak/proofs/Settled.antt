-- What a try to take a weak snapshot leaves, by the place that its caller named.
use Rattle.std.proofs.Common.{◌≡◌, ℕ, List, ap, ◌∙◌, subst}
use Rattle.std.specs.Prelude.{Option, None}
use Rattle.protected_loads.specs.counted_handles.declared.place.WeakPlace.{WeakPlace}
use Rattle.protected_loads.specs.plain_state.declared.act.EventPlace.{EventPlace}
use Rattle.protected_loads.specs.plain_state.declared.act.PlainAct.{PlainAct}
use Rattle.protected_loads.specs.plain_state.declared.slot.SlotId.{SlotId}
use Rattle.protected_loads.specs.plain_state.Places.{place_kind}
use Rattle.protected_loads.specs.plain_state.State.{Plain}
use Rattle.protected_loads.specs.plain_protocol.Owns.{OwnPart}
use Rattle.protected_loads.specs.core_events.Steps.{HasAdd, HasRoom}
use Rattle.protected_loads.specs.acquire_retire.Calls.{IsSameView, same_view}
use Rattle.protected_loads.specs.acquire_retire.Domains.{DomainState}
use Rattle.protected_loads.specs.acquire_retire.Notes.{least_free}
use Rattle.protected_loads.specs.acquire_retire.Seats.{SeatState}
use Rattle.protected_loads.specs.control_word.Moves.{KnowsStill}
use Rattle.protected_loads.specs.control_word.Resting.{IsAtRest}
use Rattle.protected_loads.specs.Loads.{Protects}
use Rattle.atomic_weak.specs.Places.{weak_place}
use Rattle.atomic_weak.specs.Questions.{Answers}
use Rattle.atomic_weak.specs.Taking.{Finds, IsUnderWhereHeld, notes_with}
use Rattle.atomic_weak.specs.WeakSnapshots.{StaysUnder}
use Rattle.atomic_weak.specs.declared.snapshots.WeakSnap.{WeakSnap as WeakAnswer}
use Rattle.atomic_weak.proofs.Found.{finds}
use Rattle.atomic_weak.proofs.Named.{weak_kind}
use Rattle.atomic_weak.proofs.NotesLeft.{notes_found}
use Rattle.atomic_weak.proofs.Protected.{Protected}
use Rattle.atomic_weak.proofs.Staying.{stays_found}
use Rattle.atomic_weak.proofs.Under.{least_used, room_after, under_held}

-- all that a try leaves to its seat
pub record Settles {P V : Type 0} (fits : List ℕ → Type 0) (d : DomainState P) (place : EventPlace)
    (next : OwnPart → OwnPart → V → PlainAct → ℕ → V)
    (allows : Plain → Plain → ℕ → V → V → Type 0) (a : WeakAnswer) (old new : SeatState V)
    : Type 0 where
  pub found : Finds fits d place next allows (least_free old.view.core) a old new
  pub under : IsUnderWhereHeld a new.view.core
  pub notes : new.view.core.notes ≡ notes_with a old.view.core.notes
  pub others : StaysUnder old.view.core new.view.core
  pub objects : KnowsStill old.view.core old new
  pub room : HasRoom old.view.core → HasRoom new.view.core
  pub rest : IsAtRest d new

module _ {P V : Type 0} {fits : List ℕ → Type 0} {d : DomainState P} {s : SlotId}
    {old mid : SeatState V} where
  pub protected : (place : WeakPlace) {q : EventPlace} → q ≡ weak_place place → IsAtRest d old
      → Protects fits d 0 q same_view IsSameView s old mid → KnowsStill old.view.core old mid
      → Protected fits d (weak_place place) s old mid
  protected place is rest protects knows =
      subst (λ (y : EventPlace). Protected fits d y s old mid) is
      (record {
        rest = rest;
        weak = ap place_kind is ∙ weak_kind place;
        by = protects;
        knows = knows;
      })

  pub settles : {place : EventPlace} → Protected fits d place s old mid → (word : Option ℕ)
      → word ≡ least_free old.view.core → (word ≡ None → HasAdd old.view.core)
      → (next : OwnPart → OwnPart → V → PlainAct → ℕ → V)
      (allows : Plain → Plain → ℕ → V → V → Type 0) (new : SeatState V) (a : WeakAnswer)
      → Answers fits d word s next allows a mid new
      → Settles fits d place next allows a old new
  settles {place = place} p word is add next allows new a answers =
      let free = least_used old.view.core word is add in
      let leaves = finds p next allows word new free a answers in record {
        found =
            subst (λ (w : Option ℕ). Finds fits d place next allows w a old new) is leaves.found;
        under = under_held fits d place next allows old new word a free leaves.found;
        notes = notes_found fits d place next allows word old new a leaves.found;
        others = stays_found fits d place next allows word old new free a leaves.found;
        objects = leaves.objects;
        room = room_after fits d place next allows old new word a leaves.found;
        rest = leaves.rest;
      }
