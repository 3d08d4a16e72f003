-- How a seat comes under a weak snapshot of what a weak place holds: it protects a slot by its
-- first word, and asks whether the object lives.
use Rattle.std.specs.Prelude.{ℕ, ◌≡◌, List, ◌++◌, Option}
use Rattle.protected_loads.specs.plain_state.declared.act.EventPlace.{EventPlace}
use Rattle.protected_loads.specs.plain_state.declared.act.PlainAct.{PlainAct}
use Rattle.protected_loads.specs.plain_state.declared.slot.Kind.TheVariants.{Disposal}
use Rattle.protected_loads.specs.plain_state.declared.slot.SlotId.{SlotId}
use Rattle.protected_loads.specs.plain_state.State.{Plain, slot_at}
use Rattle.protected_loads.specs.plain_protocol.Owns.{OwnPart, object_of}
use Rattle.protected_loads.specs.core_events.declared.act.Act.TheVariants as act
use Rattle.protected_loads.specs.core_events.declared.view.CoreView.{CoreView}
use Rattle.protected_loads.specs.core_events.declared.view.Note.{Note}
use Rattle.protected_loads.specs.core_events.declared.view.Note.TheVariants as note
use Rattle.protected_loads.specs.core_events.Shows.{shows}
use Rattle.protected_loads.specs.core_events.Views.{Holds}
use Rattle.retiring_stores.specs.domain_rule.Views.{object_in}
use Rattle.protected_loads.specs.acquire_retire.Calls.{IsReady, IsSameView, same_view}
use Rattle.protected_loads.specs.acquire_retire.Domains.{DomainState}
use Rattle.protected_loads.specs.acquire_retire.Notes.{least_free}
use Rattle.protected_loads.specs.acquire_retire.Seats.{SeatState}
use Rattle.protected_loads.specs.control_word.Moves.{last_core}
use Rattle.protected_loads.specs.control_word.Resting.{noted}
use Rattle.protected_loads.specs.Loads.{FindsNull, Protects, protected_by}
use Rattle.atomic_weak.specs.Questions.{FindsAlive, FindsNone, IsReadyFor, alive_by, none_by, with_guarded, with_none}
use Rattle.atomic_weak.specs.WeakSnapshots.{IsUnder}
use Rattle.atomic_weak.specs.declared.snapshots.WeakSnap.{WeakSnap as WeakAnswer}
use Rattle.atomic_weak.specs.declared.snapshots.WeakSnap.TheVariants as answer

-- where it answers a snapshot, a seat with v is under it, and holds its slot
abbrev pub IsUnderWhereHeld : WeakAnswer → CoreView → Type 0
IsUnderWhereHeld answer.Null v = Unit {0}
IsUnderWhereHeld answer.Zero v = Unit {0}
IsUnderWhereHeld (answer.Held snap) v = IsUnder snap v × Holds v snap.slot

-- the notes of a seat that has come under a weak snapshot more, by what it answers
abbrev pub notes_with : WeakAnswer → List Note → List Note
notes_with answer.Null ns = ns
notes_with answer.Zero ns = ns
notes_with (answer.Held snap) ns = noted snap.word (note.Valid Disposal snap.slot) ns

module _ {P V : Type 0} (fits : List ℕ → Type 0) (d : DomainState P) (place : EventPlace) where
  -- it has protected s by its first word, without a deed
  pub record ProtectsWeakly (s : SlotId) (old new : SeatState V) : Type 0 where
    pub by : Protects fits d 0 place same_view IsSameView s old new
    pub client : new.view.client ≡ old.view.client

  -- the deed is ready for the look, and to ask about whatever was protected
  pub record IsReadyToAsk (ready : OwnPart → V → PlainAct → Type 0) (old : SeatState V)
      : Type 0 where
    pub look : IsReady ready d.shape (act.Look place) old.view
    pub ask :
        (s : SlotId) (mid : SeatState V) → ProtectsWeakly s old mid
        → IsReadyFor fits d (least_free old.view.core) s ready mid

  module _ (next : OwnPart → OwnPart → V → PlainAct → ℕ → V)
      (allows : Plain → Plain → ℕ → V → V → Type 0) (word : Option ℕ) where
    -- It has come under a weak snapshot of s, whose object lived at the step that asked. It knows
    -- the object as the domain showed it at the check.
    pub record Takes (s : SlotId) (old new : SeatState V) : Type 0 where
      pub mid : SeatState V
      pub protects : ProtectsWeakly s old mid
      pub finds : FindsAlive fits d word s next allows mid new
      pub core :
          new.view.core
          ≡ record (with_guarded word s old.view.core) {
            trail = old.view.core.trail ++ (protected_by 0 place s ++ alive_by word s);
          }
      pub cleared : new.view.cleared ≡ old.view.cleared
      pub object :
          object_in new.view s
          ≡ object_of (slot_at (shows d.shape (last_core protects.by.checks)) s)

    -- it found a slot to which, at the step that asked, no strong reference was left
    pub record FindsZero (old new : SeatState V) : Type 0 where
      pub slot : SlotId
      pub mid : SeatState V
      pub protects : ProtectsWeakly slot old mid
      pub finds : FindsNone fits d word slot next allows mid new
      pub core :
          new.view.core
          ≡ record (with_none word old.view.core) {
            trail = old.view.core.trail ++ (protected_by 0 place slot ++ none_by word slot);
          }
      pub cleared : new.view.cleared ≡ old.view.cleared

    -- what it answers is what it found: null at the look, with the deed, or a slot with no strong
    -- reference, or an object that lived
    abbrev pub Finds : WeakAnswer → SeatState V → SeatState V → Type 0
    Finds answer.Null old new = FindsNull fits d place next allows old new
    Finds answer.Zero old new = FindsZero old new
    Finds (answer.Held snap) old new = (snap.word ≡ word) × Takes snap.slot old new
