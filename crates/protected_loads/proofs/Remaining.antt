-- What a load leaves: the room for entries to retire, and a reference that can be given on.
use Rattle.std.proofs.Common.{ℕ, List, ap, refl, sym, subst, ◌∙◌, ◌++◌, ◌∷◌, []}
use Rattle.std.specs.Prelude.{◌≡◌, IfSome, Option, Some, None}
use Rattle.control_word.specs.plain_state.declared.act.EventPlace.{EventPlace}
use Rattle.control_word.specs.plain_state.declared.act.EventPlace.TheVariants.{Cell, Field, WeakCell, WeakField}
use Rattle.control_word.specs.plain_state.declared.act.PlainAct.{PlainAct}
use Rattle.control_word.specs.plain_state.declared.slot.Kind.{Kind}
use Rattle.control_word.specs.plain_state.declared.slot.Kind.TheVariants.{Strong, Weak, Disposal}
use Rattle.control_word.specs.plain_state.declared.slot.SlotId.{SlotId}
use Rattle.control_word.specs.plain_state.Places.{place_kind}
use Rattle.control_word.specs.plain_state.State.{Plain}
use Rattle.control_word.specs.plain_protocol.Owns.{OwnPart}
use Rattle.control_word.specs.core_events.declared.view.CoreView.{CoreView}
use Rattle.control_word.specs.core_events.declared.view.Move.{Move}
use Rattle.control_word.specs.core_events.Steps.{CanGive, HasRoom}
use Rattle.control_word.specs.acquire_retire.Domains.{DomainState}
use Rattle.control_word.specs.acquire_retire.Seats.{SeatState}
use Rattle.control_word.proofs.Owning.{some_more}
use Rattle.protected_loads.specs.Loads.{Acquires, FindsNull, Misses, Protects}
use Rattle.protected_loads.specs.References.{Loads, loaded_by, with_reference}

-- a reference more takes no room
room_beside : (k : Kind) (s : SlotId) (v : CoreView) (t : List Move) → HasRoom v
    → HasRoom (record (with_reference k s v) { trail = t })
room_beside Strong s v t room = room
room_beside Weak s v t room = room
room_beside Disposal s v t room = room

-- a reference that was counted can be given to a place like the one from which it came
given_on : (place : EventPlace) (s : SlotId) (v : CoreView) (t : List Move)
    → CanGive (place_kind place) (Some s)
    (record (with_reference (place_kind place) s v) { trail = t })
given_on (Cell i) s v t = some_more s s refl v.owned (v.owned ++ s ∷ []) refl
given_on (Field x i) s v t = some_more s s refl v.owned (v.owned ++ s ∷ []) refl
given_on (WeakCell i) s v t = some_more s s refl v.weaks (v.weaks ++ s ∷ []) refl
given_on (WeakField x) s v t = some_more s s refl v.weaks (v.weaks ++ s ∷ []) refl

-- a reference more leaves the notes
notes_beside : (k : Kind) (s : SlotId) (v : CoreView) → (with_reference k s v).notes ≡ v.notes
notes_beside Strong s v = refl
notes_beside Weak s v = refl
notes_beside Disposal s v = refl

module _ {P V : Type 0} {fits : List ℕ → Type 0} {d : DomainState P} (place : EventPlace)
    {next : OwnPart → OwnPart → V → PlainAct → ℕ → V}
    {allows : Plain → Plain → ℕ → V → V → Type 0} (old new : SeatState V) where
  pub null_room : FindsNull fits d place next allows old new → HasRoom old.view.core
      → HasRoom new.view.core
  null_room null = subst HasRoom (sym null.becomes.core)

  pub protected_room : (j : ℕ) (s : SlotId) → Protects fits d j place next allows s old new
      → HasRoom old.view.core → HasRoom new.view.core
  protected_room j s protects = subst HasRoom (sym protects.core)

  pub missed_room : (j : ℕ) (seen now : Option SlotId)
      → Misses fits d j place next allows seen now old new → HasRoom old.view.core
      → HasRoom new.view.core
  missed_room j seen now misses = subst HasRoom (sym misses.core)

module _ {P V : Type 0} (fits : List ℕ → Type 0) (d : DomainState P) (place : EventPlace)
    (next : OwnPart → OwnPart → V → PlainAct → ℕ → V)
    (allows : Plain → Plain → ℕ → V → V → Type 0) (old new : SeatState V) where
  pub loaded_room : (found : Option SlotId) → Loads fits d place next allows found old new
      → HasRoom old.view.core → HasRoom new.view.core
  loaded_room None null room = null_room place old new null room
  loaded_room (Some s) refers room =
      subst HasRoom (sym refers.core)
      (room_beside (place_kind place) s old.view.core
      (old.view.core.trail ++ loaded_by place s) room)

  pub loaded_notes : (found : Option SlotId) → Loads fits d place next allows found old new
      → new.view.core.notes ≡ old.view.core.notes
  loaded_notes None null = ap (λ (v : CoreView). v.notes) null.becomes.core
  loaded_notes (Some s) refers =
      ap (λ (v : CoreView). v.notes) refers.core
      ∙ notes_beside (place_kind place) s old.view.core

  pub loaded_owned : (found : Option SlotId) → Loads fits d place next allows found old new
      → CanGive (place_kind place) found new.view.core
  loaded_owned None null = tt
  loaded_owned (Some s) refers =
      subst (CanGive (place_kind place) (Some s)) (sym refers.core)
      (given_on place s old.view.core (old.view.core.trail ++ loaded_by place s))

  -- what was found tells which of both an acquire did
  pub acquires : (j : ℕ) (found : Option SlotId)
      → (found ≡ None → FindsNull fits d place next allows old new)
      → IfSome found (λ s. Protects fits d j place next allows s old new)
      → Acquires fits d j place next allows found old new
  acquires j None null protects = null refl
  acquires j (Some s) null protects = protects
