-- What a seat has while it sees a head of a cell, and by which moves it comes to that and goes on.
use Rattle.std.specs.Prelude.{ℕ, ◌≡◌, ◌≢◌, ◌-◌, ◌<◌, ◌≤◌, Bool, true, false, List, [], ◌∷◌, ◌++◌, length, slice_index, Option, Some, None, Result, Ok, Err}
use Rattle.atomic_weak.specs.plain_state.declared.act.EventPlace.TheVariants.{WeakCell}
use Rattle.atomic_weak.specs.plain_state.declared.slot.Kind.TheVariants.{Weak}
use Rattle.atomic_weak.specs.plain_state.declared.slot.SlotId.{SlotId}
use Rattle.atomic_weak.specs.core_events.declared.act.Act.TheVariants as act
use Rattle.atomic_weak.specs.core_events.declared.outcome.Outcome.TheVariants as outcome
use Rattle.atomic_weak.specs.core_events.declared.view.CoreView.{CoreView}
use Rattle.atomic_weak.specs.core_events.declared.view.Move.{Move}
use Rattle.atomic_weak.specs.core_events.declared.view.Note.TheVariants as note
use Rattle.atomic_weak.specs.core_events.Steps.{with_note}
use Rattle.atomic_weak.specs.core_events.Views.{note_of}
use Rattle.atomic_weak.specs.acquire_retire.Collecting.{move}
use Rattle.atomic_weak.specs.acquire_retire.Notes.{least_free}
use Rattle.atomic_weak.specs.acquire_retire.Seats.{SeatState}
use Rattle.atomic_weak.specs.counted_handles.Handles.{Handle}
use Rattle.atomic_weak.specs.control_word.declared.upgrading.UpgradeError.{UpgradeError}
use Rattle.atomic_weak.specs.control_word.declared.upgrading.UpgradeError.TheVariants as no_raise
use Rattle.atomic_weak.specs.control_word.Calls.{with_add, with_strong}
use Rattle.atomic_weak.specs.protected_loads.Loads.{protected_by}
use Rattle.atomic_weak.specs.protected_loads.Retries.{Lost, lost_by}
use Rattle.weak_intern.specs.declared.seeing.Sighted.{Sighted}

-- the slot of the head that a cell held, if it held one
abbrev pub sighted_in : Option Sighted → Option SlotId
sighted_in None = None
sighted_in (Some it) = Some it.slot

-- one of the seat's words 1 to 3 stands for a weak snapshot of the head
abbrev pub IsSighted : Sighted → CoreView → Type 0
IsSighted it v = (0 < it.word) × (it.word < 4) × (note_of v it.word ≡ note.Valid Weak it.slot)

-- what a seat has, but for its trail, with the head that it sees, if there is one; and once it has
-- let it go
abbrev pub with_sighted : Option Sighted → CoreView → CoreView
with_sighted None v = v
with_sighted (Some it) v = with_note it.word (note.Valid Weak it.slot) v

abbrev pub let_go_of : Sighted → CoreView → CoreView
let_go_of it v = with_note it.word note.Idle v

-- the seat, as it would be without the head
abbrev pub seat_without : {V : Type 0} → Sighted → SeatState V → SeatState V
seat_without it seat = record seat {
  view = record seat.view { core = let_go_of it seat.view.core };
}

-- THE MOVES. Those of the last try of a load of weak cell i
abbrev pub seen_by : ℕ → Option Sighted → List Move
seen_by i None = move (act.Look (WeakCell i)) (outcome.Found None) ∷ []
seen_by i (Some it) = protected_by it.word (WeakCell i) it.slot

-- those that read the first words of s, of which this list has the newest first
abbrev pub compared_by : SlotId → List ℕ → List Move
compared_by s [] = []
compared_by s (w ∷ ws) = compared_by s ws ++ move (act.See s (length ws)) (outcome.Word w) ∷ []

-- whether an add counted, if one was made
abbrev pub added : Result Handle UpgradeError → Option Bool
added (Ok strong) = Some true
added (Err no_raise.Ended) = Some false
added (Err no_raise.Spent) = None

-- what a seat has, but for its trail, after such an add to s; and its move
abbrev pub with_added : Option Bool → SlotId → CoreView → CoreView
with_added None s v = v
with_added (Some true) s v = with_strong s v
with_added (Some false) s v = with_add v

abbrev pub added_by : Option Bool → SlotId → List Move
added_by None s = []
added_by (Some true) s = move (act.Add s) outcome.Up ∷ []
added_by (Some false) s = move (act.Add s) outcome.Dead ∷ []

-- a load of weak cell i by word j lost some tries, and then found null or this head
pub record Sights (i j : ℕ) (found : Option Sighted) (v w : CoreView) : Type 0 where
  pub lost : List Lost
  pub core :
      w
      ≡ record (with_sighted found v) {
        trail = v.trail ++ (lost_by j (WeakCell i) lost ++ seen_by i found);
      }

-- by some word, and where it found a head by the least that stood for nothing, which keeps it
abbrev pub SightsBy : ℕ → Option Sighted → CoreView → CoreView → Type 0
SightsBy i None v w = (j : ℕ) × Sights i j None v w
SightsBy i (Some it) v w =
    (least_free v ≡ Some it.word) × IsSighted it w × Sights i it.word (Some it) v w

-- the words that were read, the newest first, are all of this payload
abbrev pub AreAllOf : List ℕ → List ℕ → Type 0
AreAllOf payload words =
    (length words ≡ 16)
    × ((k : ℕ) → k < 16 → slice_index words (15 - k) ≡ slice_index payload k)

-- at most 16 words of s were read, and nothing else was done; all of the payload, where it is the same
pub record Compares (s : SlotId) (payload : List ℕ) (same : Bool) (v w : CoreView) : Type 0 where
  pub words : List ℕ
  pub few : length words ≤ 16
  pub all : same ≡ true → AreAllOf payload words
  pub core : w ≡ record v { trail = v.trail ++ compared_by s words }

-- a head was let go, after an add to it if there was one
abbrev pub raised_moves : Sighted → Option Bool → List Move
raised_moves it how =
    added_by how it.slot ++ move (act.Release it.word) outcome.Plain ∷ []

abbrev pub Raises : Sighted → Option Bool → CoreView → CoreView → Type 0
Raises it how v w =
    w ≡ record (with_added how it.slot (let_go_of it v)) {
      trail = v.trail ++ raised_moves it how;
    }

-- At most 16 words of a head were read, and then it was let go, after such an add: one was made only
-- where the words were all of this payload.
pub record Ends (it : Sighted) (payload : List ℕ) (how : Option Bool) (v w : CoreView) : Type 0
  where
    pub words : List ℕ
    pub few : length words ≤ 16
    pub all : how ≢ None → AreAllOf payload words
    pub core :
        w
        ≡ record (with_added how it.slot (let_go_of it v)) {
          trail = v.trail ++ (compared_by it.slot words ++ raised_moves it how);
        }

-- A visit by word j to weak cell i, in which s stood: which tries it lost first, which words of s
-- were read, the newest first, and whether an add counted, if there was one
pub record Visit : Type 0 where
  pub cell : ℕ
  pub slot : SlotId
  pub word : ℕ
  pub lost : List Lost
  pub words : List ℕ
  pub how : Option Bool

-- its moves: s was announced, and found there still, read, and let go after such an add
abbrev pub visited_by : Visit → List Move
visited_by x =
    lost_by x.word (WeakCell x.cell) x.lost
    ++ (protected_by x.word (WeakCell x.cell) x.slot
    ++ (compared_by x.slot x.words
    ++ raised_moves (record { slot = x.slot; word = x.word }) x.how))

-- By one visit to weak cell i alone, with such an add to s, which stood there: one was made only where
-- its words were all of this payload.
pub record Visits (i : ℕ) (s : SlotId) (payload : List ℕ) (how : Option Bool) (v w : CoreView)
    : Type 0 where
  pub word : ℕ
  pub lost : List Lost
  pub words : List ℕ
  pub few : length words ≤ 16
  pub all : how ≢ None → AreAllOf payload words
  pub core :
      w
      ≡ record (with_added how s v) {
        trail =
            v.trail
            ++ visited_by (record {
              cell = i;
              slot = s;
              word = word;
              lost = lost;
              words = words;
              how = how;
            });
      }
