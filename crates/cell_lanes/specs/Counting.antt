-- What a lane has counted, and what it keeps for that.
use Rattle.std.specs.Prelude.{ℕ, ◌≡◌, ◌==◌, ◌*◌, ◌+◌, ◌≤◌, ◌++◌, List, [], ◌∷◌, cond, length, map, true}
use Rattle.cell_intern.specs.cell_calls.Cells.{BindsAlone}
use Rattle.cell_intern.specs.cell_calls.Keeping.{Keeps}
use Rattle.cell_intern.specs.cell_calls.cell_law.Views.{texts_of}
use Rattle.cell_intern.specs.cell_calls.cell_law.Walks.{SawAll}
use Rattle.cell_intern.specs.cell_calls.cell_law.declared.view.View.{View}
use Rattle.cell_intern.specs.cell_calls.cell_law.directory_law.Views.{In}
use Rattle.cell_intern.specs.cell_calls.cell_law.directory_law.declared.view.Rope.{Rope}
use Rattle.cell_intern.specs.cell_calls.cell_law.plain_state.declared.slot.SlotId.{SlotId}
use Rattle.cell_intern.specs.cell_calls.cell_protocol.declared.law.CellLaw.{CellLaw}
use Rattle.cell_intern.specs.cell_making.Texts.{text_of}
use Rattle.cell_intern.specs.epoch_refs.epoch_domain.Domains.{DomainState}
use Rattle.cell_intern.specs.epoch_refs.epoch_domain.Seats.{SeatState}
use Rattle.lane_work.specs.Keeping.{has, slots_of}
use Rattle.lane_work.specs.Sizes.{slots_of_words}
use Rattle.lane_work.specs.Tallying.{Tallies}
use Rattle.lane_work.specs.cdrc_text.Fold.{times}
use Rattle.lane_work.specs.counted_handles.Handles.{Handle}
use Rattle.lane_work.specs.declared.lane.Lane.{Lane}
use Rattle.cell_rest.specs.Kept.{TellsWord}
use Rattle.cell_rest.specs.record_counts.Told.{TellsRecords}

-- THE VIEW
-- The view has seen and found more. It lists more heads as bound, with the texts of some of these words, at most one
-- for each of them. What it has of seats that left is as it was, and so is how many heads the seat may put into cells
-- in all; cells are cleared or not as they were.
pub record GrowsBy (words : List (List ℕ)) (v w : View) : Type 0 where
  pub saw : SawAll v w
  pub found : (e : Rope) → In e v.found → In e w.found
  pub heads : List Rope
  pub bound : w.bound ≡ heads ++ v.bound
  pub made : List (List ℕ)
  pub texts : texts_of heads ≡ map text_of made
  pub few : length made ≤ length words
  pub once : (x : List ℕ) → times x made ≤ times x words
  pub among : (x : List ℕ) → In x made → In x words
  pub joined : w.joined ≡ v.joined
  pub grant : w.grant ≡ v.grant
  pub cleared : w.cleared ≡ v.cleared

-- THE LANE
-- the most adds that are used for some words: three for each slot of their records
abbrev pub adds_for : List (List ℕ) → ℕ
adds_for words = 3 * slots_of_words words

module _ (d : DomainState CellLaw) where
  -- The lane counted these words, one in each turn. It keeps more references, which its seat owns besides. The seat
  -- used at most a make for each slot of the words' records; and where no other seat may put heads into cells, one for
  -- each slot of the records whose heads it put there.
  pub record Counts (words : List (List ℕ)) (old new : SeatState View) (before after : Lane)
      : Type 0 where
    pub tallies : Tallies words before.tally after.tally
    pub more : List Handle
    pub kept : after.keeper.kept.items ≡ before.keeper.kept.items ++ more
    pub keeps :
        Keeps (slots_of_words words) (adds_for words)
        (old.view.core.owned ++ slots_of more) old new
    pub grows : GrowsBy words old.view.client new.view.client
    pub alone :
        BindsAlone d old
        → new.view.core.makes ≤ old.view.core.makes + slots_of_words grows.made
    pub number : after.number ≡ before.number
    pub turn : after.turn ≡ before.turn + length words

  -- It counted a word, whose record is in the slot of this reference. It keeps that where it kept none to this slot for
  -- the present file.
  pub record CountsPiece (word : List ℕ) (old new : SeatState View) (before after : Lane)
      : Type 0 where
    pub counts : Counts (word ∷ []) old new before after
    pub handle : Handle
    pub tells : TellsWord new.view.client word handle.slot
    pub is : counts.more ≡ cond (has before.keeper handle.slot) [] (handle ∷ [])
    pub marks :
        (s : SlotId) → has after.keeper s
        ≡ cond (handle.slot.0 == s.0) true (has before.keeper s)

  -- it counted the words of a file, and keeps one reference to the record of each of them
  pub record CountsFile (words : List (List ℕ)) (old new : SeatState View) (before after : Lane)
      : Type 0 where
    pub counts : Counts words old new before after
    pub tells : TellsRecords (TellsWord new.view.client) words (slots_of counts.more)
