-- What a make of a record does to the view of its seat.
use Rattle.std.specs.Prelude.{ℕ, ◌≡◌, ◌+◌, List, [], ◌∷◌, Result, Ok, Err}
use Rattle.slot_store.specs.counted_handles.Handles.{Handle}
use Rattle.atomic_shared.specs.plain_state.declared.slot.SlotId.{SlotId}
use Rattle.slot_store.specs.core_events.declared.view.CoreView.{CoreView}
use Rattle.slot_store.specs.domain_rule.Views.{object_in}
use Rattle.slot_store.specs.acquire_retire.Domains.{DomainState}
use Rattle.slot_store.specs.acquire_retire.Seats.{SeatState}
use Rattle.directory_calls.specs.directory_law.Payloads.{Text}
use Rattle.directory_calls.specs.directory_law.declared.view.Rope.{Rope}
use Rattle.directory_calls.specs.directory_law.declared.view.View.{View}
use Rattle.directory_calls.specs.directory_law.Views.{rope}
use Rattle.directory_calls.specs.Steps.{GoesOn}
use Rattle.slot_store.specs.Searching.{Misses}

-- s as a rope of this text that stands nowhere yet
abbrev pub candidate_in : {V : Type 0} → SlotId → Text → SeatState V → Rope
candidate_in s text seat = rope s (object_in seat.view s).life text

-- the view has noted this last
abbrev pub HasNotedLast : Rope → View → Type 0
HasNotedLast e v = (others : List Rope) × (v.noted ≡ e ∷ others)

-- a view with these notes in place of its own
abbrev pub with_notes : List Rope → View → View
with_notes es v = record v { noted = es }

-- of a view that has the directory's as a part nothing has changed but the notes; and e is noted last
abbrev pub NotesOnly : {V : Type 0} → (V → View) → (V → View → V) → V → V → Type 0
NotesOnly seen with_seen v w = (es : List Rope) × (w ≡ with_seen v (with_notes es (seen v)))

abbrev pub Notes : {V : Type 0} → (V → View) → (V → View → V) → Rope → V → V → Type 0
Notes seen with_seen e v w =
    (others : List Rope) × (w ≡ with_seen v (with_notes (e ∷ others) (seen v)))

-- some text of s was noted last
abbrev pub HasText : {V : Type 0} → (V → View) → SlotId → SeatState V → Type 0
HasText seen s seat =
    (text : Text) × HasNotedLast (candidate_in s text seat) (seen seat.view.client)

-- whatever text of s was noted last, it is noted last of t then, with this payload before it
abbrev pub PutsBefore : {V : Type 0} → (V → View) → (V → View → V) → List ℕ → SlotId → SlotId
    → SeatState V → SeatState V → Type 0
PutsBefore seen with_seen payload s t old new =
    (text : Text) → HasNotedLast (candidate_in s text old) (seen old.view.client)
    → Notes seen with_seen (candidate_in t (payload ∷ text) new) old.view.client new.view.client

-- t was noted last, with its payload alone, and before it a text of s
abbrev pub HasTwo : {V : Type 0} → (V → View) → SlotId → SlotId → SeatState V → Type 0
HasTwo seen t s seat =
    (text : Text) × (others : List Rope)
    × ((seen seat.view.client).noted ≡ candidate_in t ((object_in seat.view t).payload ∷ []) seat
    ∷ candidate_in s text seat ∷ others)

-- whatever text of s was noted before t, it is noted last of t then, with its payload before it
abbrev pub Links : {V : Type 0} → (V → View) → (V → View → V) → SlotId → SlotId → SeatState V
    → SeatState V → Type 0
Links seen with_seen t s old new =
    (text : Text) (others : List Rope)
    → (seen old.view.client).noted ≡ candidate_in t ((object_in old.view t).payload ∷ []) old
    ∷ candidate_in s text old ∷ others
    → Notes seen with_seen (candidate_in t ((object_in old.view t).payload ∷ text) new)
    old.view.client new.view.client

-- one make where a slot was made
abbrev pub made_by : {E : Type 0} → Result Handle E → ℕ
made_by (Ok slot) = 1
made_by (Err error) = 0

-- as many adds were used as makes
abbrev pub AddsAsMakes : CoreView → CoreView → Type 0
AddsAsMakes v w = w.adds + v.makes ≡ v.adds + w.makes

-- between two states of the call each slot of the domain was found taken
pub record MissesWithin {P V : Type 0} (fits : List ℕ → Type 0) (d : DomainState P)
    (old new : SeatState V) : Type 0 where
  pub mid : SeatState V
  pub late : SeatState V
  pub misses : Misses fits d mid late
  pub since : GoesOn old.view.core mid.view.core
  pub till : GoesOn late.view.core new.view.core
