-- What a load does: it protects what a place holds, counts a reference of the place's kind to it, and
-- takes its announcement back.
use Rattle.std.specs.Prelude.{ℕ, ◌≡◌, List, [], ◌∷◌, ◌++◌, Option, Some, None}
use Rattle.control_word.specs.plain_state.declared.act.EventPlace.{EventPlace}
use Rattle.control_word.specs.plain_state.declared.act.PlainAct.{PlainAct}
use Rattle.control_word.specs.plain_state.declared.slot.Kind.{Kind}
use Rattle.control_word.specs.plain_state.declared.slot.Kind.TheVariants.{Strong, Weak, Disposal}
use Rattle.control_word.specs.plain_state.declared.slot.SlotId.{SlotId}
use Rattle.control_word.specs.plain_state.Places.{place_kind}
use Rattle.control_word.specs.plain_state.State.{Plain, slot_at}
use Rattle.control_word.specs.plain_protocol.Owns.{OwnPart, object_of}
use Rattle.control_word.specs.core_events.declared.act.Act.{Act}
use Rattle.control_word.specs.core_events.declared.act.Act.TheVariants as act
use Rattle.control_word.specs.core_events.declared.outcome.Outcome.{Outcome}
use Rattle.control_word.specs.core_events.declared.outcome.Outcome.TheVariants as outcome
use Rattle.control_word.specs.core_events.declared.view.CoreView.{CoreView}
use Rattle.control_word.specs.core_events.declared.view.Move.{Move}
use Rattle.control_word.specs.core_events.Shows.{shows}
use Rattle.control_word.specs.domain_rule.Views.{object_in}
use Rattle.control_word.specs.acquire_retire.Calls.{IsSameView, same_view}
use Rattle.control_word.specs.acquire_retire.Collecting.{move}
use Rattle.control_word.specs.acquire_retire.Domains.{DomainState}
use Rattle.control_word.specs.acquire_retire.Seats.{SeatState}
use Rattle.control_word.specs.Calls.{with_strong, with_weak}
use Rattle.control_word.specs.Moves.{Becomes, last_core}
use Rattle.protected_loads.specs.Loads.{FindsNull, IsReadyToAcquire, Protects, protected_by}

-- the act that counts a reference of a kind, and what it answers where the slot is under a snapshot
-- of that kind. No place holds one of the kind Disposal
abbrev pub counting : Kind → SlotId → Act
counting Strong s = act.Add s
counting Weak s = act.Wadd s
counting Disposal s = act.Wadd s

abbrev pub counted_as : Kind → Outcome
counted_as Strong = outcome.Up
counted_as Weak = outcome.Plain
counted_as Disposal = outcome.Plain

-- what a seat has, but for its trail, once it has used an add and gained a reference of a kind
abbrev pub with_reference : Kind → SlotId → CoreView → CoreView
with_reference Strong s v = with_strong s v
with_reference Weak s v = with_weak s v
with_reference Disposal s v = with_weak s v

-- the moves that count a reference to what note 0 protects and take the announcement back
abbrev pub kept_by : Kind → SlotId → List Move
kept_by k s =
    move (counting k s) (counted_as k) ∷ move (act.Release 0) outcome.Plain ∷ []

-- all moves of a load that found s
abbrev pub loaded_by : EventPlace → SlotId → List Move
loaded_by place s = protected_by 0 place s ++ kept_by (place_kind place) s

module _ {P V : Type 0} (fits : List ℕ → Type 0) (d : DomainState P) (place : EventPlace) where
  -- the deed is ready for the look, and for the check of whatever was found and announced
  abbrev pub IsReadyToLoad : (OwnPart → V → PlainAct → Type 0) → SeatState V → Type 0
  IsReadyToLoad ready old = IsReadyToAcquire fits d 0 place ready old

  module _ (next : OwnPart → OwnPart → V → PlainAct → ℕ → V)
      (allows : Plain → Plain → ℕ → V → V → Type 0) where
    -- The seat has gained a reference to s, of the place's kind: it protected s by its first note,
    -- with the deed, then counted the reference and took the announcement back. It knows the object
    -- in s as the domain showed it at the check.
    pub record Refers (s : SlotId) (old new : SeatState V) : Type 0 where
      pub mid : SeatState V
      pub protects : Protects fits d 0 place next allows s old mid
      pub keeps :
          Becomes fits d same_view IsSameView (kept_by (place_kind place) s)
          (with_reference (place_kind place) s old.view.core) mid new
      pub client : new.view.client ≡ mid.view.client
      pub core :
          new.view.core
          ≡ record (with_reference (place_kind place) s old.view.core) {
            trail = old.view.core.trail ++ loaded_by place s;
          }
      pub cleared : new.view.cleared ≡ old.view.cleared
      pub object :
          object_in new.view s
          ≡ object_of (slot_at (shows d.shape (last_core protects.checks)) s)

    -- it has found null, with the deed, or gained a reference to what the place held
    abbrev pub Loads : Option SlotId → SeatState V → SeatState V → Type 0
    Loads None old new = FindsNull fits d place next allows old new
    Loads (Some s) old new = Refers s old new
