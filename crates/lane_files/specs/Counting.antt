-- What a lane does for a file, and why it goes no further.
use Rattle.std.specs.Prelude.{ℕ, ◌≡◌, ◌<◌, ◌≤◌, ◌+◌, ◌++◌, Bool, cond, List, [], ◌∷◌, length, slice_index_or, take}
use Rattle.control_word.specs.plain_state.declared.slot.SlotId.{SlotId}
use Rattle.control_word.specs.plain_state.Lists.{times}
use Rattle.control_word.specs.counted_handles.Handles.{Handle}
use Rattle.control_word.specs.acquire_retire.Domains.{DomainState}
use Rattle.control_word.specs.acquire_retire.Seats.{SeatState}
use Rattle.weak_intern.specs.Knowing.{KnowsRecord}
use Rattle.words_protocol.specs.cdrc_text.Text.{slots_of_word}
use Rattle.words_protocol.specs.words_law.Views.{View}
use Rattle.words_protocol.specs.declared.law.WordsLaw.{WordsLaw}
use Rattle.lane_files.specs.Passed.{Takes, UsesInterns}
use Rattle.lane_files.specs.PieceMakes.{LacksMake}
use Rattle.lane_files.specs.Pieces.{IsWhyNotCounted}
use Rattle.lane_files.specs.Ready.{Owns}
use Rattle.lane_files.specs.Scans.{scans_of}
use Rattle.lane_files.specs.lane_work.declared.lane.Lane.{Lane}
use Rattle.lane_files.specs.declared.refusal.FileError.{FileError}
use Rattle.lane_files.specs.declared.refusal.FileError.TheVariants as refused
use Rattle.lane_files.specs.Keeping.{IsSameKeeper, slots_of}
use Rattle.lane_files.specs.Makes.{cause_at, makes_for}

-- the seat knows that these slots have records of these words, in order
abbrev pub KnowsEach : List (List ℕ) → List SlotId → SeatState View → Type 0
KnowsEach [] [] seat = Unit {0}
KnowsEach [] (s ∷ ss) seat = ⊥
KnowsEach (w ∷ ws) [] seat = ⊥
KnowsEach (w ∷ ws) (s ∷ ss) seat =
    KnowsRecord (λ (v : View). v.1) w s seat × KnowsEach ws ss seat

-- Each of these words has a record that the seat knows. The references that are kept are to the slots of those records,
-- to each slot once.
pub record KeepsRecords (words : List (List ℕ)) (kept : List SlotId) (seat : SeatState View)
    : Type 0 where
  pub slots : List SlotId
  pub knows : KnowsEach words slots seat
  pub once : (s : SlotId) → 0 < times s slots → times s kept ≡ 1
  pub only : (s : SlotId) → times s slots ≡ 0 → times s kept ≡ 0

-- The lane pushed an item of each of these words, in order, popped at most as many items, and counted the words of
-- these. It keeps one reference more to the record of each word, and used an intern for each. It made a node for each
-- word, and at most the slots of its record, and a whole scan or more for each word.
pub record CountsFile (words : List (List ℕ)) (old new : SeatState View) (before after : Lane)
    : Type 0 where
  pub taken : ℕ
  pub most : taken ≤ length words
  pub takes :
      Takes words taken old.view.client new.view.client before.tally after.tally
  pub more : List Handle
  pub kept : after.keeper.kept.items ≡ before.keeper.kept.items ++ more
  pub records : KeepsRecords words (slots_of more) new
  pub owns : Owns (old.view.core.owned ++ slots_of more) old new
  pub interns : UsesInterns (length words) old.view.client new.view.client
  pub makes : new.view.core.makes ≤ old.view.core.makes + makes_for words
  pub scans : scans_of old + length words ≤ scans_of new

module _ (fits : List ℕ → Type 0) (d : DomainState WordsLaw) where
  -- Why a word wasn't counted: as `count_piece` tells it; or it was, and there was no memory to keep its record. The
  -- lane keeps what it kept.
  abbrev pub IsWhyStopped : List ℕ → FileError → SeatState View → SeatState View → Lane → Lane
      → Type 0
  IsWhyStopped word (refused.Piece error) old new before after =
      IsWhyNotCounted fits d word error old new before.tally after.tally
  IsWhyStopped word refused.OutOfMemory old new before after =
      (one : Bool) × Takes (word ∷ []) (cond one 1 0) old.view.client new.view.client
      before.tally after.tally

  -- It counted some of these words, and stopped at the next one. For that it used at most the makes of the others, and
  -- one less where a make was refused.
  pub record StopsInFile (words : List (List ℕ)) (error : FileError) (old new : SeatState View)
      (before after : Lane) : Type 0 where
    pub done : ℕ
    pub fewer : done < length words
    pub last : SeatState View
    pub lane : Lane
    pub counts : CountsFile (take done words) old last before lane
    pub why :
        IsWhyStopped (slice_index_or words done []) error last new lane after
    pub keeps : IsSameKeeper lane.keeper after.keeper
    pub owns : Owns last.view.core.owned last new
    pub makes :
        new.view.core.makes
        ≤ last.view.core.makes + slots_of_word (slice_index_or words done []) + 1
    pub lacks :
        LacksMake d (slots_of_word (slice_index_or words done [])) (cause_at error)
        last.view.core new.view.core
