-- What a seat does that protects what a place holds: it looks at the place, announces what it found
-- there, and checks that the place still holds it.
use Rattle.std.specs.Prelude.{ℕ, ◌≡◌, ◌≢◌, List, [], ◌∷◌, ◌++◌, Option, Some, None}
use Rattle.control_word.specs.plain_state.declared.act.EventPlace.{EventPlace}
use Rattle.control_word.specs.plain_state.declared.act.PlainAct.{PlainAct}
use Rattle.control_word.specs.plain_state.declared.slot.SlotId.{SlotId}
use Rattle.control_word.specs.plain_state.Places.{content, place_kind}
use Rattle.control_word.specs.plain_state.State.{Plain, slot_at}
use Rattle.control_word.specs.plain_protocol.Owns.{OwnPart, object_of}
use Rattle.control_word.specs.core_events.declared.act.Act.TheVariants as act
use Rattle.control_word.specs.core_events.declared.outcome.Outcome.TheVariants as outcome
use Rattle.control_word.specs.core_events.declared.view.CoreView.{CoreView}
use Rattle.control_word.specs.core_events.declared.view.Move.{Move}
use Rattle.control_word.specs.core_events.declared.view.Note.TheVariants as note
use Rattle.control_word.specs.core_events.Shows.{shows}
use Rattle.control_word.specs.core_events.Steps.{with_note}
use Rattle.control_word.specs.domain_rule.Views.{object_in}
use Rattle.control_word.specs.acquire_retire.Calls.{IsReady, IsSameView, same_view}
use Rattle.control_word.specs.acquire_retire.Collecting.{move}
use Rattle.control_word.specs.acquire_retire.Domains.{DomainState}
use Rattle.control_word.specs.acquire_retire.Seats.{SeatState}
use Rattle.control_word.specs.Moves.{Becomes, KnowsStill, last_core}

-- what a seat has, but for its trail, once note j announces s, which a place of this kind held, and
-- once it stands for a snapshot of it
abbrev pub with_announced : ℕ → EventPlace → SlotId → CoreView → CoreView
with_announced j place s v = with_note j (note.Announced (place_kind place) s) v

abbrev pub with_snapshot : ℕ → EventPlace → SlotId → CoreView → CoreView
with_snapshot j place s v = with_note j (note.Valid (place_kind place) s) v

-- the moves that find s in a place and announce it, and those that find it there still
abbrev pub announced_by : ℕ → EventPlace → SlotId → List Move
announced_by j place s =
    move (act.Look place) (outcome.Found (Some s))
    ∷ move (act.Announce j (place_kind place) s) outcome.Plain ∷ []

abbrev pub protected_by : ℕ → EventPlace → SlotId → List Move
protected_by j place s =
    announced_by j place s ++ move (act.Check j place) outcome.Valid ∷ []

-- the moves that find s, and then this instead of it, and take the announcement back
abbrev pub missed_by : ℕ → EventPlace → SlotId → Option SlotId → List Move
missed_by j place s now =
    announced_by j place s
    ++ move (act.Check j place) (outcome.Moved now) ∷ move (act.Release j) outcome.Plain ∷ []

module _ {P V : Type 0} (fits : List ℕ → Type 0) (d : DomainState P) (place : EventPlace)
    (next : OwnPart → OwnPart → V → PlainAct → ℕ → V)
    (allows : Plain → Plain → ℕ → V → V → Type 0) where
  -- the seat's look, with the deed, found null, as the domain showed the place then
  pub record FindsNull (old new : SeatState V) : Type 0 where
    pub becomes :
        Becomes fits d next allows (move (act.Look place) (outcome.Found None) ∷ [])
        old.view.core old new
    pub null : content (shows d.shape (last_core becomes)) place ≡ None

module _ {P V : Type 0} (fits : List ℕ → Type 0) (d : DomainState P) (j : ℕ) (place : EventPlace)
  where
    -- the seat has found s in the place and announced it, without a deed
    pub record Announces (s : SlotId) (old new : SeatState V) : Type 0 where
      pub becomes :
          Becomes fits d same_view IsSameView (announced_by j place s)
          (with_announced j place s old.view.core) old new
      pub client : new.view.client ≡ old.view.client
      pub knows : KnowsStill old.view.core old new
      pub seen : content (shows d.shape becomes.walks.1.told.happened.before) place ≡ Some s

    -- the deed is ready for the check of whatever was found and announced
    abbrev pub IsReadyToCheck : (OwnPart → V → PlainAct → Type 0) → SeatState V → Type 0
    IsReadyToCheck ready old =
        (s : SlotId) (mid : SeatState V) → Announces s old mid
        → IsReady ready d.shape (act.Check j place) mid.view

    -- the deed is ready for the look, and for the check of whatever was found and announced
    pub record IsReadyToAcquire (ready : OwnPart → V → PlainAct → Type 0) (old : SeatState V)
        : Type 0 where
      pub look : IsReady ready d.shape (act.Look place) old.view
      pub check : IsReadyToCheck ready old

    module _ (next : OwnPart → OwnPart → V → PlainAct → ℕ → V)
        (allows : Plain → Plain → ℕ → V → V → Type 0) where
      -- It found s in the place, announced it, and found it there still, at a check with the deed.
      -- So it is under a snapshot of s, whose object it knows as the domain showed it at the check.
      pub record Protects (s : SlotId) (old new : SeatState V) : Type 0 where
        pub mid : SeatState V
        pub announces : Announces s old mid
        pub checks :
            Becomes fits d next allows (move (act.Check j place) outcome.Valid ∷ [])
            (with_snapshot j place s old.view.core) mid new
        pub core :
            new.view.core
            ≡ record (with_snapshot j place s old.view.core) {
              trail = old.view.core.trail ++ protected_by j place s;
            }
        pub cleared : new.view.cleared ≡ old.view.cleared
        pub there : content (shows d.shape (last_core checks)) place ≡ Some s
        pub object :
            object_in new.view s ≡ object_of (slot_at (shows d.shape (last_core checks)) s)

      -- It found `seen` in the place, announced it, and at a check with the deed found `now`, which
      -- is another content. It has taken the announcement back, and only its trail has grown.
      pub record Misses (seen now : Option SlotId) (old new : SeatState V) : Type 0 where
        pub slot : SlotId
        pub found : seen ≡ Some slot
        pub differ : now ≢ seen
        pub mid : SeatState V
        pub announces : Announces slot old mid
        pub late : SeatState V
        pub checks :
            Becomes fits d next allows (move (act.Check j place) (outcome.Moved now) ∷ [])
            (with_announced j place slot old.view.core) mid late
        pub releases :
            Becomes fits d same_view IsSameView (move (act.Release j) outcome.Plain ∷ [])
            old.view.core late new
        pub client : new.view.client ≡ late.view.client
        pub core :
            new.view.core
            ≡ record old.view.core {
              trail = old.view.core.trail ++ missed_by j place slot now;
            }
        pub cleared : new.view.cleared ≡ old.view.cleared
        pub there : content (shows d.shape (last_core checks)) place ≡ now

      -- it has found null, with the deed, or protects what the place held
      abbrev pub Acquires : Option SlotId → SeatState V → SeatState V → Type 0
      Acquires None old new = FindsNull fits d place next allows old new
      Acquires (Some s) old new = Protects s old new
