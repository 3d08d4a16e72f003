-- What a seat has of the snapshots once it has taken one, or missed it.
use Rattle.std.proofs.Common.{◌≡◌, ℕ, ◌<◌, List, ◌++◌, length, refl, ap, sym, ◌∙◌, subst, arith}
use Rattle.std.specs.Prelude.{IfSome, Option, Some, None}
use Rattle.protected_loads.specs.counted_handles.declared.refusal.LoadError.{LoadError}
use Rattle.protected_loads.specs.counted_handles.declared.refusal.LoadError.TheVariants as refused
use Rattle.protected_loads.specs.plain_state.declared.act.EventPlace.{EventPlace}
use Rattle.protected_loads.specs.plain_state.declared.act.PlainAct.{PlainAct}
use Rattle.protected_loads.specs.plain_state.declared.slot.Kind.{Kind}
use Rattle.protected_loads.specs.plain_state.declared.slot.Kind.TheVariants.{Strong}
use Rattle.protected_loads.specs.plain_state.declared.slot.SlotId.{SlotId}
use Rattle.protected_loads.specs.plain_state.Places.{place_kind}
use Rattle.protected_loads.specs.plain_state.State.{Plain}
use Rattle.protected_loads.specs.plain_protocol.Owns.{OwnPart}
use Rattle.protected_loads.specs.core_events.declared.view.CoreView.{CoreView}
use Rattle.protected_loads.specs.core_events.declared.view.Move.{Move}
use Rattle.protected_loads.specs.core_events.declared.view.Note.TheVariants as note
use Rattle.protected_loads.specs.core_events.Steps.{CanGive}
use Rattle.protected_loads.specs.core_events.Views.{Holds, note_of}
use Rattle.protected_loads.specs.core_events.Words.{slot_in}
use Rattle.protected_loads.specs.acquire_retire.Notes.{least_free}
use Rattle.protected_loads.specs.acquire_retire.Domains.{DomainState}
use Rattle.protected_loads.specs.acquire_retire.Seats.{SeatState}
use Rattle.protected_loads.specs.Loads.{FindsNull, Misses, Protects, protected_by}
use Rattle.protected_loads.specs.References.{Loads, loaded_by}
use Rattle.protected_loads.specs.Retries.{AtLast}
use Rattle.protected_loads.proofs.Noting.{written}
use Rattle.protected_loads.proofs.Remaining.{loaded_owned}
use Rattle.protected_loads.proofs.Telling.{four_notes}
use Rattle.snapshot_ptr.specs.Handles.{IsHeldBy, IsUnder, Snap, StaysUnder, slot_under}
use Rattle.snapshot_ptr.specs.Taking.{Takes, word_taken}
use Rattle.snapshot_ptr.proofs.Staying.{stays_beside, stays_longer, stays_with_reference}
use Rattle.snapshot_ptr.proofs.Under.{IsFreeWord, holds_under, least_is_free}

-- where a slot was found, it is held by the word
abbrev pub IsHeldWhereFound : Option ℕ → Option SlotId → CoreView → Type 0
IsHeldWhereFound word None v = Unit {0}
IsHeldWhereFound word (Some s) v = IsHeldBy word s v.owned v.notes

-- the word, if there is one, stands for nothing
abbrev pub IsFreeIfThere : Option ℕ → CoreView → Type 0
IsFreeIfThere None v = Unit {0}
IsFreeIfThere (Some j) v = IsFreeWord j v

-- the least free word is so
pub least_is_there : (v : CoreView) (word : Option ℕ) → word ≡ least_free v → IsFreeIfThere word v
least_is_there v None is = tt
least_is_there v (Some j) is = least_is_free v j (sym is)

-- and the snapshot of what was found, if any, the seat is under
pub under_found : (word : Option ℕ) (snap : Option Snap) (v : CoreView)
    → IfSome snap (λ s. s.word ≡ word) → IsHeldWhereFound word (slot_under snap) v
    → IfSome snap (λ s. IsUnder s v)
under_found word None v is held = tt
under_found word (Some s) v is held =
    subst (λ (w : Option ℕ). IsHeldBy w s.slot v.owned v.notes) (sym is) held

pub holds_found : (snap : Option Snap) (v : CoreView) → IfSome snap (λ s. IsUnder s v)
    → IfSome snap (λ s. Holds v s.slot)
holds_found None v under = tt
holds_found (Some s) v under = holds_under s v under

stays_to : (v w new : CoreView) → new ≡ w → StaysUnder v w → StaysUnder v new
stays_to v w new is = subst (StaysUnder v) (sym is)

-- where only the trail has grown
stays_trail : (v w : CoreView) (t : List Move) → w ≡ record v { trail = t } → StaysUnder v w
stays_trail v w t is = stays_to v (record v { trail = t }) w is (stays_longer v t)

module _ {P V : Type 0} (fits : List ℕ → Type 0) (d : DomainState P) (place : EventPlace)
    (next : OwnPart → OwnPart → V → PlainAct → ℕ → V)
    (allows : Plain → Plain → ℕ → V → V → Type 0) (old new : SeatState V) where
  stays_null : FindsNull fits d place next allows old new
      → StaysUnder old.view.core new.view.core
  stays_null null = stays_trail old.view.core new.view.core _ null.becomes.core

  pub stays_missed : (j : ℕ) (seen now : Option SlotId)
      → Misses fits d j place next allows seen now old new
      → StaysUnder old.view.core new.view.core
  stays_missed j seen now misses = stays_trail old.view.core new.view.core _ misses.core

  -- a load that was refused, for whichever reason
  pub stays_refused : (e : LoadError) → (e ≡ refused.Spent → new ≡ old)
      → ((seen now : ℕ) → e ≡ refused.Moved seen now
      → Misses fits d 0 place next allows (slot_in seen) (slot_in now) old new)
      → StaysUnder old.view.core new.view.core
  stays_refused refused.Spent same moved =
      subst (λ (s : SeatState V). StaysUnder old.view.core s.view.core) (sym (same refl))
      (λ snap under. under)
  stays_refused (refused.Moved seen now) same moved =
      stays_missed 0 (slot_in seen) (slot_in now) (moved seen now refl)

  pub stays_loaded : (found : Option SlotId) → Loads fits d place next allows found old new
      → StaysUnder old.view.core new.view.core
  stays_loaded None null = stays_null null
  stays_loaded (Some s) refers =
      stays_to old.view.core _ new.view.core refers.core
      (stays_with_reference old.view.core (old.view.core.trail ++ loaded_by place s)
      (place_kind place) s)

  module _ (strong : place_kind place ≡ Strong) where
    module _ (j : ℕ) (s : SlotId) (protects : Protects fits d j place next allows s old new)
        (free : IsFreeWord j old.view.core) where
      there : j < length old.view.core.notes
      there =
          let four = four_notes protects.announces.becomes.walks.1.told in
          let small = free.1 in omega arith

      held_protected : IsHeldBy (Some j) s new.view.core.owned new.view.core.notes
      held_protected = (
        free.0,
        free.1,
        ap (λ (v : CoreView). note_of v j) protects.core
            ∙ written old.view.core j there (note.Valid (place_kind place) s)
            ∙ ap (λ (k : Kind). note.Valid k s) strong,
      )

      stays_protected : StaysUnder old.view.core new.view.core
      stays_protected =
          stays_to old.view.core _ new.view.core protects.core
          (stays_beside old.view.core (old.view.core.trail ++ protected_by j place s) j
          (note.Valid (place_kind place) s) there free.2)

    held_loaded : (s : SlotId) → Loads fits d place next allows (Some s) old new
        → IsHeldBy None s new.view.core.owned new.view.core.notes
    held_loaded s refers =
        subst (λ (k : Kind). CanGive k (Some s) new.view.core) strong
        (loaded_owned fits d place next allows old new (Some s) refers)

    -- all that a try leaves of the snapshots: those that were, and the one that it took
    pub taken : (word : Option ℕ) (found : Option SlotId)
        → Takes fits d place next allows word found old new
        → IsFreeIfThere word old.view.core
        → StaysUnder old.view.core new.view.core × IsHeldWhereFound word found new.view.core
    taken None None loads free = (stays_loaded None loads, tt)
    taken None (Some s) loads free = (stays_loaded (Some s) loads, held_loaded s loads)
    taken (Some j) None null free = (stays_null null, tt)
    taken (Some j) (Some s) protects free =
        (stays_protected j s protects free, held_protected j s protects free)

free_still : (word : Option ℕ) (v w : CoreView) (t : List Move) → w ≡ record v { trail = t }
    → IsFreeIfThere word v → IsFreeIfThere word w
free_still None v w t is free = tt
free_still (Some j) v w t is free = (free.0, free.1, ap (λ (x : CoreView). note_of x j) is ∙ free.2)

-- the same of a try that came after others
pub taken_at_last : {P V : Type 0} (fits : List ℕ → Type 0) (d : DomainState P)
    (place : EventPlace) (next : OwnPart → OwnPart → V → PlainAct → ℕ → V)
    (allows : Plain → Plain → ℕ → V → V → Type 0) (old new : SeatState V)
    → place_kind place ≡ Strong → (word : Option ℕ) (found : Option SlotId)
    → AtLast fits d place next allows (word_taken word)
    (Takes fits d place next allows word found) old new
    → IsFreeIfThere word old.view.core
    → StaysUnder old.view.core new.view.core × IsHeldWhereFound word found new.view.core
taken_at_last fits d place next allows old new strong word found at free =
    let last = taken fits d place next allows at.mid new strong word found at.goes
    (free_still word old.view.core at.mid.view.core _ at.core free) in (
      (λ snap under. last.0 snap
          (stays_trail old.view.core at.mid.view.core _ at.core snap under)),
      last.1,
    )
