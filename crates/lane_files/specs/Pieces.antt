-- What a call does for one piece of a text, and why it doesn't.
use Rattle.std.specs.Prelude.{◌≡◌, ℕ, Bool, false, List, [], ◌∷◌, Result, Ok, Err, cond}
use Rattle.control_word.specs.plain_state.declared.slot.SlotId.{SlotId}
use Rattle.control_word.specs.acquire_retire.Domains.{DomainState}
use Rattle.control_word.specs.acquire_retire.Seats.{SeatState}
use Rattle.control_word.specs.Resting.{IsSpent}
use Rattle.words_protocol.specs.directory_law.Cells.{Area}
use Rattle.weak_intern.specs.directory_calls.Directories.{HasNoRecord, area_of}
use Rattle.weak_intern.specs.directory_calls.Steps.{AtStep}
use Rattle.weak_intern.specs.record_making.Making.{MissesWithin}
use Rattle.hand_queues.specs.slot_store.Calls.{HasNoMake}
use Rattle.hand_queues.specs.slot_store.declared.making.MakeError.{MakeError}
use Rattle.hand_queues.specs.slot_store.declared.making.MakeError.TheVariants as unmade
use Rattle.weak_intern.specs.Interning.{Interns}
use Rattle.words_protocol.specs.words_law.Views.{View}
use Rattle.words_protocol.specs.declared.law.WordsLaw.{WordsLaw}
use Rattle.lane_files.specs.declared.refusal.PieceError.{PieceError}
use Rattle.lane_files.specs.declared.refusal.PieceError.TheVariants as refused
use Rattle.lane_files.specs.Passed.{Counts, Takes}
use Rattle.lane_files.specs.Whys.{FindsNoItem, IsWhyNotCopied, IsWhyNotTaken}

-- an intern is used unless the piece has no record
abbrev pub used_of : PieceError → ℕ
used_of (refused.Interning why) = 0
used_of error = 1

abbrev pub used_by : {T : Type 0} → Result T PieceError → ℕ
used_by (Ok x) = 1
used_by (Err error) = used_of error

-- the cells and the interns of the directory
abbrev pub texts_of : DomainState WordsLaw → Area
texts_of d = area_of d.protocol.pair.right

-- s was the live record of the piece at a step between the two states, which pushed and popped nothing
pub record InternsFirst (d : DomainState WordsLaw) (piece : List ℕ) (s : SlotId)
    (old new : SeatState View) : Type 0 where
  pub interns : Interns d (texts_of d) piece s old new
  pub idle : Counts [] [] old.view.client new.view.client

module _ (fits : List ℕ → Type 0) (d : DomainState WordsLaw) where
  -- after it had pushed an item of this word, the seat found no item to pop
  pub record FindsNoneThen (word : List ℕ) (old new : SeatState View) : Type 0 where
    pub offered : SeatState View
    pub pushes : Counts (word ∷ []) [] old.view.client offered.view.client
    pub finds : FindsNoItem fits d offered new

  -- The seat pushed an item of this word. It popped one, whose word was counted; or it found none.
  pub record PassesOn (word : List ℕ) (old new : SeatState View)
      (before after : List (List ℕ × ℕ)) : Type 0 where
    pub one : Bool
    pub takes :
        Takes (word ∷ []) (cond one 1 0) old.view.client new.view.client before after
    pub none : one ≡ false → FindsNoneThen word old new

  -- It was interned as s before.
  pub record CountsPiece (piece : List ℕ) (s : SlotId) (old new : SeatState View)
      (before after : List (List ℕ × ℕ)) : Type 0 where
    pub interned : SeatState View
    pub first : InternsFirst d piece s old interned
    pub passes : PassesOn piece interned new before after

  -- why a piece has no record: the seat is spent; or the piece had none at a step, and no make is left or each slot was
  -- found taken
  abbrev pub IsWhyNotInterned : List ℕ → MakeError → SeatState View → SeatState View → Type 0
  IsWhyNotInterned piece unmade.AddsSpent old new = IsSpent new.view.core
  IsWhyNotInterned piece unmade.MakesSpent old new =
      HasNoMake new.view.core
      × AtStep d (λ p. HasNoRecord (texts_of d) p piece) old new
  IsWhyNotInterned piece unmade.Full old new =
      MissesWithin fits d old new × AtStep d (λ p. HasNoRecord (texts_of d) p piece) old new

  -- Why s wasn't passed on: its copy wasn't pushed, and nothing popped; or it was pushed, and then no word was counted.
  abbrev pub IsWhyNotPassed : List ℕ → SlotId → PieceError → SeatState View → SeatState View
      → List (List ℕ × ℕ) → List (List ℕ × ℕ) → Type 0
  IsWhyNotPassed word s (refused.Interning why) old new before after = ⊥
  IsWhyNotPassed word s (refused.Offering why) old new before after =
      IsWhyNotCopied fits d s why old new × Counts [] [] old.view.client new.view.client
      × (after ≡ before)
  IsWhyNotPassed word s (refused.Taking why) old new before after =
      (offered : SeatState View) × Counts (word ∷ []) [] old.view.client offered.view.client
      × IsWhyNotTaken why offered new before after

  -- it was interned as some slot, which then wasn't passed on
  pub record StopsLater (piece : List ℕ) (error : PieceError) (old new : SeatState View)
      (before after : List (List ℕ × ℕ)) : Type 0 where
    pub slot : SlotId
    pub interned : SeatState View
    pub first : InternsFirst d piece slot old interned
    pub why : IsWhyNotPassed piece slot error interned new before after

  -- why a piece wasn't counted
  abbrev pub IsWhyNotCounted : List ℕ → PieceError → SeatState View → SeatState View
      → List (List ℕ × ℕ) → List (List ℕ × ℕ) → Type 0
  IsWhyNotCounted piece (refused.Interning why) old new before after =
      IsWhyNotInterned piece why old new × Counts [] [] old.view.client new.view.client
      × (after ≡ before)
  IsWhyNotCounted piece error old new before after =
      StopsLater piece error old new before after
