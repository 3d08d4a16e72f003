-- What a seat has after some tries that were lost.
use Rattle.std.proofs.Common.{◌≡◌, ℕ, List, [], ◌∷◌, ◌++◌, refl, ap, sym, ◌∙◌, subst, append_assoc}
use Rattle.std.specs.Prelude.{Option}
use Rattle.std.proofs.lemmas.List.{append-nil}
use Rattle.control_word.specs.plain_state.declared.act.EventPlace.{EventPlace}
use Rattle.control_word.specs.plain_state.declared.act.PlainAct.{PlainAct}
use Rattle.control_word.specs.plain_state.declared.slot.SlotId.{SlotId}
use Rattle.control_word.specs.plain_state.State.{Plain}
use Rattle.control_word.specs.plain_protocol.Owns.{HasSlot, OwnPart}
use Rattle.control_word.specs.core_events.declared.view.CoreView.{CoreView}
use Rattle.control_word.specs.core_events.declared.view.Move.{Move}
use Rattle.control_word.specs.core_events.Shows.{show_seat}
use Rattle.control_word.specs.core_events.Steps.{HasAdd, HasRoom}
use Rattle.control_word.specs.core_events.Views.{IsReadable, note_of}
use Rattle.control_word.specs.acquire_retire.Domains.{DomainState}
use Rattle.control_word.specs.acquire_retire.Seats.{SeatState}
use Rattle.control_word.specs.Moves.{KnowsStill}
use Rattle.control_word.specs.Resting.{IsAtRest}
use Rattle.protected_loads.specs.Loads.{Misses, missed_by}
use Rattle.protected_loads.specs.Retries.{AtLast, Loses, Lost, lost_by}
use Rattle.protected_loads.proofs.Noting.{same_has, same_readable}

-- the seat has lost some tries by note j, and is at rest
pub record HasLost {P V : Type 0} (fits : List ℕ → Type 0) (d : DomainState P)
    (place : EventPlace) (j : ℕ) (next : OwnPart → OwnPart → V → PlainAct → ℕ → V)
    (allows : Plain → Plain → ℕ → V → V → Type 0) (old new : SeatState V) : Type 0 where
  pub lost : List Lost
  pub loses : Loses fits d place next allows j lost old new
  pub core :
      new.view.core
      ≡ record old.view.core { trail = old.view.core.trail ++ lost_by j place lost }
  pub cleared : new.view.cleared ≡ old.view.cleared
  pub knows : KnowsStill old.view.core old new
  pub rest : IsAtRest d new

module _ {P V : Type 0} (fits : List ℕ → Type 0) (d : DomainState P) (place : EventPlace) (j : ℕ)
    (next : OwnPart → OwnPart → V → PlainAct → ℕ → V)
    (allows : Plain → Plain → ℕ → V → V → Type 0) (old : SeatState V) where
  pub none_lost : IsAtRest d old → HasLost fits d place j next allows old old
  none_lost rest = record {
    lost = [];
    loses = refl;
    core =
        ap (λ (t : List Move). record old.view.core { trail = t })
        (sym (append-nil old.view.core.trail));
    cleared = refl;
    knows = λ s has. refl;
    rest = rest;
  }

  module _ (mid : SeatState V) (lost : HasLost fits d place j next allows old mid) where
    -- what the seat has it has still, and so may read the place, and has adds and room left
    has_still : (v : CoreView) (t : List Move) → mid.view.core ≡ record v { trail = t }
        → KnowsStill v old mid → (new : SeatState V) → KnowsStill mid.view.core mid new
        → KnowsStill v old new
    has_still v t is before new after s has =
        after s
        (subst (λ (u : CoreView). HasSlot (show_seat u) s) (sym is)
        (same_has v v.notes t refl s has))
        ∙ before s has

    pub reads_still : IsReadable d.shape old.view.core place
        → IsReadable d.shape mid.view.core place
    reads_still can =
        subst (λ (v : CoreView). IsReadable d.shape v place) (sym lost.core)
        (same_readable old.view.core old.view.core.notes
        (old.view.core.trail ++ lost_by j place lost.lost) refl d.shape place can)

    pub add_left : HasAdd old.view.core → HasAdd mid.view.core
    add_left = subst HasAdd (sym lost.core)

    pub room_left : HasRoom old.view.core → HasRoom mid.view.core
    room_left = subst HasRoom (sym lost.core)

    pub note_left : (i : ℕ) → note_of mid.view.core i ≡ note_of old.view.core i
    note_left i = ap (λ (v : CoreView). note_of v i) lost.core

    pub one_lost : (seen now : Option SlotId) (new : SeatState V)
        → Misses fits d j place next allows seen now mid new
        → KnowsStill mid.view.core mid new → IsAtRest d new
        → HasLost fits d place j next allows old new
    one_lost seen now new misses knows rest = record {
      lost = record { slot = misses.slot; now = now } ∷ lost.lost;
      loses = (
        mid,
        lost.loses,
        subst (λ (x : Option SlotId). Misses fits d j place next allows x now mid new) misses.found
            misses,
      );
      core =
          misses.core
          ∙ ap (λ (v : CoreView).
          record v { trail = v.trail ++ missed_by j place misses.slot now }) lost.core
          ∙ ap (λ (t : List Move). record old.view.core { trail = t })
          (append_assoc old.view.core.trail (lost_by j place lost.lost)
          (missed_by j place misses.slot now));
      cleared = misses.cleared ∙ lost.cleared;
      knows =
          has_still old.view.core (old.view.core.trail ++ lost_by j place lost.lost) lost.core
          lost.knows new knows;
      rest = rest;
    }

    -- all that the tries leave with the last one
    pub at_last : (Goes : SeatState V → SeatState V → Type 0) (new : SeatState V) → Goes mid new
        → KnowsStill mid.view.core mid new
        → AtLast fits d place next allows j Goes old new × KnowsStill old.view.core old new
    at_last Goes new goes knows = (
      record {
        lost = lost.lost;
        mid = mid;
        loses = lost.loses;
        core = lost.core;
        cleared = lost.cleared;
        goes = goes;
      },
      has_still old.view.core (old.view.core.trail ++ lost_by j place lost.lost) lost.core
          lost.knows new knows,
    )
