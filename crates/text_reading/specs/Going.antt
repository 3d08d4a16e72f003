-- How a seat goes on from one slot of a text to the next.
use Rattle.std.specs.Prelude.{ℕ, ◌≡◌, List, [], ◌∷◌, ◌++◌, length, Option, Some, None}
use Rattle.snapshot_ptr.specs.plain_state.declared.slot.SlotId.{SlotId}
use Rattle.snapshot_ptr.specs.plain_state.State.{Plain}
use Rattle.slot_store.specs.core_events.declared.view.CoreView.{CoreView}
use Rattle.slot_store.specs.core_events.declared.view.Move.{Move}
use Rattle.slot_store.specs.core_events.declared.view.Note.TheVariants as note
use Rattle.slot_store.specs.core_events.Steps.{with_note}
use Rattle.slot_store.specs.domain_rule.Views.{object_in}
use Rattle.slot_store.specs.acquire_retire.Seats.{SeatState}
use Rattle.directory_calls.specs.directory_law.declared.view.Ran.{Ran}
use Rattle.directory_calls.specs.directory_law.declared.view.View.{View}
use Rattle.directory_calls.specs.directory_law.Lessons.{ReadTells, first_ran, reads_on}
use Rattle.directory_calls.specs.directory_law.Payloads.{Text, IsText}
use Rattle.directory_calls.specs.directory_law.Views.{In}

-- by n moves a seat came from u to have v, but for its trail
abbrev pub ComesTo : ℕ → CoreView → CoreView → CoreView → Type 0
ComesTo n v u w = (ms : List Move) × (w ≡ record v { trail = u.trail ++ ms }) × (length ms ≡ n)

-- with an announcement word, if there is one, that stands for nothing
abbrev pub freed : Option ℕ → CoreView → CoreView
freed None v = v
freed (Some j) v = with_note j note.Idle v

abbrev pub one_if : Option ℕ → ℕ
one_if None = 0
one_if (Some j) = 1

-- what a step of the deed ReadPart tells: what ReadOn tells, and that each text that was begun goes
-- on to a whole one
pub record PartTells (p q : Plain) (n : ℕ) (v w : View) : Type 0 where
  pub read : ReadTells p q n v w
  pub goes_on : (e : Ran) → In e w.ran → (rest : Text) × IsText (e.before ++ rest)

module _ {V : Type 0} (seen : V → View) where
  -- how far the seat has read the text that it read last
  abbrev pub last_run : SeatState V → Ran
  last_run seat = first_ran (seen seat.view.client).ran

  -- it has read that text up to s, in the life in which it has s
  pub record IsReading (s : SlotId) (seat : SeatState V) : Type 0 where
    pub earlier : List Ran
    pub last : (seen seat.view.client).ran ≡ last_run seat ∷ earlier
    pub now : (last_run seat).now ≡ s
    pub life : (last_run seat).now_life ≡ (object_in seat.view s).life

  -- it has read the part s more, and there is a whole text that begins so
  pub record ReadsOn (s : SlotId) (old new : SeatState V) : Type 0 where
    pub ran :
        (seen new.view.client).ran
        ≡ reads_on (last_run old) s (object_in new.view s) ∷ (seen old.view.client).ran
    pub rest : Text
    pub goes_on : IsText (((last_run old).before ++ (object_in new.view s).payload ∷ []) ++ rest)
