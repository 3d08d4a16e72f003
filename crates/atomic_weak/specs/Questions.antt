-- How a seat asks whether the object of a slot lives that its first word protects: by a word that
-- announces the slot for disposal and a read of the strong word, or by an add where it has no word.
use Rattle.std.specs.Prelude.{ℕ, ◌≡◌, ◌<◌, List, [], ◌∷◌, ◌++◌, Option, Some, None}
use Rattle.protected_loads.specs.plain_state.declared.act.PlainAct.{PlainAct}
use Rattle.protected_loads.specs.plain_state.declared.slot.Kind.TheVariants.{Weak, Disposal}
use Rattle.protected_loads.specs.plain_state.declared.slot.SlotId.{SlotId}
use Rattle.protected_loads.specs.plain_state.References.{strong_refs}
use Rattle.protected_loads.specs.plain_state.State.{Plain}
use Rattle.protected_loads.specs.plain_protocol.Owns.{OwnPart}
use Rattle.protected_loads.specs.counter_word.Words.{ZERO}
use Rattle.protected_loads.specs.core_events.declared.act.Act.{Act}
use Rattle.protected_loads.specs.core_events.declared.act.Act.TheVariants as act
use Rattle.protected_loads.specs.core_events.declared.outcome.Outcome.{Outcome}
use Rattle.protected_loads.specs.core_events.declared.outcome.Outcome.TheVariants as outcome
use Rattle.protected_loads.specs.core_events.declared.shape.Shape.{Shape}
use Rattle.protected_loads.specs.core_events.declared.view.CoreView.{CoreView}
use Rattle.protected_loads.specs.core_events.declared.view.Move.{Move}
use Rattle.protected_loads.specs.core_events.declared.view.Note.TheVariants as note
use Rattle.protected_loads.specs.core_events.Shows.{shows}
use Rattle.protected_loads.specs.core_events.Steps.{HasAdd, IsIdle, with_note}
use Rattle.protected_loads.specs.core_events.Views.{note_of}
use Rattle.protected_loads.specs.acquire_retire.Calls.{IsReady, IsSameView, same_view}
use Rattle.protected_loads.specs.acquire_retire.Collecting.{move}
use Rattle.protected_loads.specs.acquire_retire.Domains.{DomainState}
use Rattle.protected_loads.specs.acquire_retire.Seats.{SeatState}
use Rattle.protected_loads.specs.control_word.Calls.{with_add, with_strong}
use Rattle.protected_loads.specs.control_word.Moves.{Becomes, KnowsStill, last_core}
use Rattle.atomic_weak.specs.declared.snapshots.WeakSnap.{WeakSnap as WeakAnswer}
use Rattle.atomic_weak.specs.declared.snapshots.WeakSnap.TheVariants as answer

-- the act that asks, by a word or by none; what it answers where the object lives, and where no
-- strong reference is left
abbrev pub asked_by : Option ℕ → SlotId → Act
asked_by None s = act.Add s
asked_by (Some j) s = act.Alive j

abbrev pub living : Option ℕ → Outcome
living None = outcome.Up
living (Some j) = outcome.Alive

abbrev pub none_left : Option ℕ → Outcome
none_left None = outcome.Dead
none_left (Some j) = outcome.Zeroed

-- by which the object lives, where the strong word is w and n strong references are left: a read
-- finds some, an add no zero flag
abbrev pub Lives : Option ℕ → ℕ → ℕ → Type 0
Lives None w n = w < ZERO
Lives (Some j) w n = 0 < n

-- the moves that announce s for disposal, where there is a word for it; those that take that back
-- with the protection; and all moves of a question by its answer
abbrev pub prepared_by : Option ℕ → SlotId → List Move
prepared_by None s = []
prepared_by (Some j) s = move (act.Announce j Disposal s) outcome.Plain ∷ []

abbrev pub closed_by : Option ℕ → List Move
closed_by None = move (act.Release 0) outcome.Plain ∷ []
closed_by (Some j) =
    move (act.Release 0) outcome.Plain ∷ move (act.Release j) outcome.Plain ∷ []

abbrev pub alive_by : Option ℕ → SlotId → List Move
alive_by word s =
    prepared_by word s
    ++ move (asked_by word s) (living word) ∷ move (act.Release 0) outcome.Plain ∷ []

abbrev pub none_by : Option ℕ → SlotId → List Move
none_by word s = prepared_by word s ++ move (asked_by word s) (none_left word) ∷ closed_by word

-- What a seat with v has, but for its trail, once it has announced s; once it is under a weak
-- snapshot of s; once it knows that no strong reference is left, for which an add is used all the
-- same; and once its first word stands for nothing
abbrev pub with_prepared : Option ℕ → SlotId → CoreView → CoreView
with_prepared None s v = v
with_prepared (Some j) s v = with_note j (note.Announced Disposal s) v

abbrev pub with_guarded : Option ℕ → SlotId → CoreView → CoreView
with_guarded None s v = with_strong s v
with_guarded (Some j) s v = with_note j (note.Valid Disposal s) v

abbrev pub with_none : Option ℕ → CoreView → CoreView
with_none None v = with_add v
with_none (Some j) v = v

abbrev pub without_first : CoreView → CoreView
without_first v = with_note 0 note.Idle v

-- one of the words 1 to 3 stands for nothing; or, where there is no word, an add is left
abbrev pub CanUse : Option ℕ → CoreView → Type 0
CanUse None v = HasAdd v
CanUse (Some j) v = (0 < j) × (j < 4) × (note_of v j ≡ note.Idle)

-- a seat that is in the middle of nothing has protected s by its first word, and can ask
pub record CanAsk (z : Shape) (word : Option ℕ) (s : SlotId) (v : CoreView) : Type 0 where
  pub idle : IsIdle v
  pub there : s.0 < z.slots
  pub first : note_of v 0 ≡ note.Valid Weak s
  pub means : CanUse word v

module _ {P V : Type 0} (fits : List ℕ → Type 0) (d : DomainState P) (word : Option ℕ)
    (s : SlotId) where
  -- it has announced s, where it has a word
  pub record Prepares (old new : SeatState V) : Type 0 where
    pub becomes :
        Becomes fits d same_view IsSameView (prepared_by word s)
        (with_prepared word s old.view.core) old new
    pub client : new.view.client ≡ old.view.client

  -- the deed is ready to ask then
  abbrev pub IsReadyFor : (OwnPart → V → PlainAct → Type 0) → SeatState V → Type 0
  IsReadyFor ready old =
      (mid : SeatState V) → Prepares old mid → IsReady ready d.shape (asked_by word s) mid.view

  module _ (next : OwnPart → OwnPart → V → PlainAct → ℕ → V)
      (allows : Plain → Plain → ℕ → V → V → Type 0) where
    -- It has prepared, asked with the deed and found o, and taken back what it had announced. At
    -- the answer it had `under`, and afterwards v.
    pub record Asks (o : Outcome) (under v : CoreView) (closing : List Move)
        (old new : SeatState V) : Type 0 where
      pub mid : SeatState V
      pub prepares : Prepares old mid
      pub late : SeatState V
      pub asks : Becomes fits d next allows (move (asked_by word s) o ∷ []) under mid late
      pub closes : Becomes fits d same_view IsSameView closing v late new
      pub client : new.view.client ≡ late.view.client

    -- the object lived, and the seat is under a weak snapshot of it
    pub record FindsAlive (old new : SeatState V) : Type 0 where
      pub asks :
          Asks (living word) (with_guarded word s old.view.core)
          (without_first (with_guarded word s old.view.core))
          (move (act.Release 0) outcome.Plain ∷ []) old new
      pub lives :
          Lives word asks.asks.walks.1.word
          (strong_refs (shows d.shape (last_core asks.asks)) s)
      pub knows : KnowsStill old.view.core old new

    -- no strong reference was left
    pub record FindsNone (old new : SeatState V) : Type 0 where
      pub asks :
          Asks (none_left word) (with_none word (with_prepared word s old.view.core))
          (without_first (with_none word old.view.core)) (closed_by word) old new
      pub none : strong_refs (shows d.shape (last_core asks.asks)) s ≡ 0
      pub knows : KnowsStill (without_first old.view.core) old new

    -- what it answers is what it found
    abbrev pub Answers : WeakAnswer → SeatState V → SeatState V → Type 0
    Answers answer.Null old new = ⊥
    Answers answer.Zero old new = FindsNone old new
    Answers (answer.Held snap) old new =
        (snap.slot ≡ s) × (snap.word ≡ word) × FindsAlive old new
