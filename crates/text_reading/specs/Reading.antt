-- What it means to have read a text.
use Rattle.std.specs.Prelude.{ℕ, ◌≡◌, ◌<◌, List, [], ◌∷◌}
use Rattle.snapshot_ptr.specs.plain_state.declared.slot.SlotId.{SlotId}
use Rattle.slot_store.specs.core_events.declared.view.CoreView.{CoreView}
use Rattle.slot_store.specs.core_events.declared.view.Note.TheVariants as note
use Rattle.slot_store.specs.core_events.Views.{note_of}
use Rattle.slot_store.specs.domain_rule.Views.{object_in}
use Rattle.slot_store.specs.acquire_retire.Seats.{SeatState}
use Rattle.directory_calls.specs.directory_law.declared.view.Ran.{Ran}
use Rattle.directory_calls.specs.directory_law.declared.view.View.{View}
use Rattle.directory_calls.specs.directory_law.Payloads.{Text, IsText}
use Rattle.directory_calls.specs.directory_law.Bytes.{text_bytes}
use Rattle.directory_calls.specs.directory_law.Views.{Each}

-- the payload of s is read, as the seat has it
abbrev pub begun : {V : Type 0} → SlotId → SeatState V → Ran
begun s seat = record {
  slot = s;
  life = (object_in seat.view s).life;
  before = (object_in seat.view s).payload ∷ [];
  now = s;
  now_life = (object_in seat.view s).life;
}

-- the seat reads the text of s last, and has read its head
abbrev pub HasBegun : {V : Type 0} → (V → View) → SlotId → SeatState V → Type 0
HasBegun seen s seat =
    (earlier : List Ran) × ((seen seat.view.client).ran ≡ begun s seat ∷ earlier)

-- the bytes are those of the text, and each of its payloads fits the kind
pub record AreBytesOf (fits : List ℕ → Type 0) (bytes : List ℕ) (text : Text) : Type 0 where
  pub same : bytes ≡ text_bytes text
  pub fit : Each fits text

-- the text that the seat read last is that of s, in the life in which it has it, and is whole
pub record HasRead {V : Type 0} (seen : V → View) (s : SlotId) (text : Text) (seat : SeatState V)
    : Type 0 where
  pub ran : Ran
  pub earlier : List Ran
  pub last : (seen seat.view.client).ran ≡ ran ∷ earlier
  pub slot : ran.slot ≡ s
  pub life : ran.life ≡ (object_in seat.view s).life
  pub whole : ran.before ≡ text
  pub is : IsText text

-- two of the seat's announcement words 1 to 3 stand for nothing
abbrev pub HasTwoFree : CoreView → Type 0
HasTwoFree v =
    (i j : ℕ) × (0 < i) × (i < j) × (j < 4)
    × (note_of v i ≡ note.Idle) × (note_of v j ≡ note.Idle)
