-- What each call on handles does.
use Rattle.std.specs.Prelude.{ℕ, ◌≡◌, ◌+◌, ◌≤◌, Bool, true, false, List, [], ◌∷◌, ◌++◌, if◌then◌else◌}
use Rattle.counted_handles.specs.plain_state.declared.act.PlainAct.{PlainAct}
use Rattle.counted_handles.specs.plain_state.declared.slot.SlotId.{SlotId}
use Rattle.counted_handles.specs.plain_state.References.{strong_refs, weak_refs}
use Rattle.counted_handles.specs.plain_state.State.{Plain}
use Rattle.acquire_retire.specs.plain_protocol.Owns.{OwnPart}
use Rattle.acquire_retire.specs.core_events.declared.act.Act.{Act}
use Rattle.acquire_retire.specs.core_events.declared.act.Act.TheVariants as act
use Rattle.acquire_retire.specs.core_events.declared.outcome.Outcome.TheVariants as outcome
use Rattle.acquire_retire.specs.core_events.declared.view.CoreView.{CoreView}
use Rattle.acquire_retire.specs.core_events.declared.view.Move.{Move}
use Rattle.acquire_retire.specs.core_events.Shows.{shows}
use Rattle.acquire_retire.specs.core_events.Views.{without}
use Rattle.counted_handles.specs.counter_word.Words.{ZERO}
use Rattle.acquire_retire.specs.declared.payment.Payment.{Payment}
use Rattle.acquire_retire.specs.Calls.{IsReady, IsSameView, Steps, same_view}
use Rattle.acquire_retire.specs.Collecting.{ends, move, paid_by}
use Rattle.acquire_retire.specs.Domains.{DomainState}
use Rattle.acquire_retire.specs.Seats.{SeatState}
use Rattle.control_word.specs.Moves.{Becomes, last_core}

-- what a seat has, but for its trail, once it has used an add, and gained or given up a reference
-- to s
abbrev pub with_add : CoreView → CoreView
with_add v = record v { adds = v.adds + 1 }

abbrev pub with_strong : SlotId → CoreView → CoreView
with_strong s v = record (with_add v) { owned = v.owned ++ s ∷ [] }

abbrev pub with_weak : SlotId → CoreView → CoreView
with_weak s v = record (with_add v) { weaks = v.weaks ++ s ∷ [] }

abbrev pub without_strong : SlotId → CoreView → CoreView
without_strong s v = record v { owned = without s v.owned }

abbrev pub without_weak : SlotId → CoreView → CoreView
without_weak s v = record v { weaks = without s v.weaks }

-- an object that the seat has ended waits in its dying list
abbrev pub with_ended : Bool → SlotId → CoreView → CoreView
with_ended ended s v = if ended then record v { dying = v.dying ++ s ∷ [] } else v

-- the same moves, of which the first is this act
abbrev pub begun_by : Act → List Move → List Move
begun_by a [] = []
begun_by a (m ∷ ms) = move a m.outcome ∷ ms

-- The moves of a drop, which goes as a payment does. No drop goes as one that gives a slot back,
-- since none answers so.
abbrev pub dropped_by : SlotId → Payment → List Move
dropped_by s how = begun_by (act.Drop s) (paid_by how)

-- the moves of a weak drop: where it was the last reference, the slot is given back
abbrev pub weakly_dropped_by : SlotId → Bool → List Move
weakly_dropped_by s false = move (act.Wdrop s) outcome.Left ∷ []
weakly_dropped_by s true =
    move (act.Wdrop s) outcome.Last ∷ move act.Free outcome.Plain ∷ []

-- the moves of a strong count that answers n: where the word was 0, a mark follows and answers
abbrev pub counted_by : SlotId → ℕ → Bool → List Move
counted_by s n false = move (act.Count s) (outcome.Number n) ∷ []
counted_by s n true =
    move (act.Count s) outcome.Again ∷ move act.Mark (outcome.Number n) ∷ []

module _ {P V : Type 0} (fits : List ℕ → Type 0) (d : DomainState P) (s : SlotId) where
  -- the seat owns one strong reference to s fewer, and has s in its dying list where it ended the
  -- object
  abbrev pub DropsStrong : SeatState V → SeatState V → Type 0
  DropsStrong old new =
      (how : Payment)
      × Becomes fits d same_view IsSameView (dropped_by s how)
      (with_ended (ends how) s (without_strong s old.view.core)) old new

  -- it owns one more weak reference to s
  abbrev pub GainsWeak : SeatState V → SeatState V → Type 0
  GainsWeak old new =
      Becomes fits d same_view IsSameView (move (act.Wadd s) outcome.Plain ∷ [])
      (with_weak s old.view.core) old new

  -- it owns one fewer
  abbrev pub DropsWeak : SeatState V → SeatState V → Type 0
  DropsWeak old new =
      (last : Bool)
      × Becomes fits d same_view IsSameView (weakly_dropped_by s last)
      (without_weak s old.view.core) old new

  -- it has read the weak word of s, which counted n references: all weak ones, and the slot's own
  pub record CountsWeak (n : ℕ) (old new : SeatState V) : Type 0 where
    pub becomes :
        Becomes fits d same_view IsSameView (move (act.Wcount s) (outcome.Word n) ∷ [])
        old.view.core old new
    pub count : weak_refs (shows d.shape (last_core becomes)) s ≡ n

module _ {P V : Type 0} (fits : List ℕ → Type 0) (d : DomainState P)
    (next : OwnPart → OwnPart → V → PlainAct → ℕ → V)
    (allows : Plain → Plain → ℕ → V → V → Type 0) (s : SlotId) where
  -- the seat owns one more strong reference to s, by an add with the deed
  abbrev pub GainsStrong : SeatState V → SeatState V → Type 0
  GainsStrong old new =
      Becomes fits d next allows (move (act.Add s) outcome.Up ∷ []) (with_strong s old.view.core)
      old new

  -- its add, with the deed, found the zero flag, and then there was no strong reference to s
  pub record FindsEnded (old new : SeatState V) : Type 0 where
    pub becomes :
        Becomes fits d next allows (move (act.Add s) outcome.Dead ∷ []) (with_add old.view.core)
        old new
    pub zero : ZERO ≤ becomes.walks.1.word
    pub none : strong_refs (shows d.shape (last_core becomes)) s ≡ 0

  -- it has counted n strong references to s at its last move, each with the deed
  pub record CountsStrong (n : ℕ) (old new : SeatState V) : Type 0 where
    pub again : Bool
    pub becomes : Becomes fits d next allows (counted_by s n again) old.view.core old new
    pub count : strong_refs (shows d.shape (last_core becomes)) s ≡ n

  -- the deed is ready for the count, and for the mark wherever the count found the word 0
  pub record IsReadyToCount (ready : OwnPart → V → PlainAct → Type 0) (old : SeatState V)
      : Type 0 where
    pub count : IsReady ready d.shape (act.Count s) old.view
    pub mark :
        (mid : SeatState V) → Steps fits d next allows (act.Count s) old mid outcome.Again
        → IsReady ready d.shape act.Mark mid.view
