-- Why a lane goes no further, and what it has done by then.
use Rattle.std.specs.Prelude.{ℕ, ◌≡◌, ◌⊎◌, ◌+◌, ◌<◌, ◌≤◌, ◌++◌, List, [], ◌∷◌}
use Rattle.cell_intern.specs.declared.refusal.InternError.{InternError}
use Rattle.cell_intern.specs.declared.refusal.InternError.TheVariants as refused
use Rattle.cell_intern.specs.cell_calls.Cells.{BindsAlone}
use Rattle.cell_intern.specs.cell_calls.Keeping.{Keeps}
use Rattle.cell_intern.specs.cell_calls.cell_law.Views.{TellsNone}
use Rattle.cell_intern.specs.cell_calls.cell_law.declared.view.View.{View}
use Rattle.cell_intern.specs.cell_calls.cell_protocol.declared.law.CellLaw.{CellLaw}
use Rattle.cell_intern.specs.cell_making.Making.{MissesWithin}
use Rattle.cell_intern.specs.cell_making.Texts.{text_of}
use Rattle.cell_intern.specs.epoch_refs.Calls.{IsSpent}
use Rattle.cell_intern.specs.epoch_refs.Making.{HasNoMake}
use Rattle.cell_intern.specs.epoch_refs.epoch_domain.Domains.{DomainState}
use Rattle.cell_intern.specs.epoch_refs.epoch_domain.Seats.{SeatState}
use Rattle.lane_work.specs.Keeping.{IsSameKeeper}
use Rattle.lane_work.specs.Sizes.{slots_of_words}
use Rattle.lane_work.specs.Tallying.{Tallies}
use Rattle.lane_work.specs.cdrc_text.Text.{slots_of_word}
use Rattle.lane_work.specs.declared.lane.Lane.{Lane}
use Rattle.cell_lanes.specs.Counting.{Counts, GrowsBy, adds_for}
use Rattle.cell_lanes.specs.declared.refusal.LaneStop.{LaneStop}
use Rattle.cell_lanes.specs.declared.refusal.LaneStop.TheVariants as stopped

-- a text that wasn't interned
abbrev pub of_intern : InternError → LaneStop
of_intern refused.MakesSpent = stopped.MakesSpent
of_intern refused.AddsSpent = stopped.AddsSpent
of_intern refused.Full = stopped.Full
of_intern refused.OutOfMemory = stopped.OutOfMemory

-- the view tells of no record of the word, and lists no head more
pub record IsUntold (word : List ℕ) (old new : SeatState View) : Type 0 where
  pub untold : TellsNone new.view.client (text_of word)
  pub bound : new.view.client.bound ≡ old.view.client.bound

-- besides, fewer makes were used for the word than its record has slots
abbrev pub IsUnmade : List ℕ → SeatState View → SeatState View → Type 0
IsUnmade word old new =
    IsUntold word old new
    × (new.view.core.makes < old.view.core.makes + slots_of_word word)

-- what is so where a word wasn't counted: no make is left, or no add; or each slot of the domain was found taken
-- between the two states
abbrev pub IsWhyStopped : DomainState CellLaw → List ℕ → LaneStop → SeatState View → SeatState View
    → Type 0
IsWhyStopped d word stopped.MakesSpent old new = HasNoMake new.view.core × IsUnmade word old new
IsWhyStopped d word stopped.AddsSpent old new = IsSpent new.view.core
IsWhyStopped d word stopped.Full old new = MissesWithin d old new × IsUnmade word old new
IsWhyStopped d word stopped.OutOfMemory old new = Unit {0}

-- it stopped for want of a make or of a slot
abbrev pub IsOfMakes : LaneStop → Type 0
IsOfMakes stopped.MakesSpent = Unit {0}
IsOfMakes stopped.Full = Unit {0}
IsOfMakes stopped.AddsSpent = ⊥
IsOfMakes stopped.OutOfMemory = ⊥

-- the tally is as it was; or the word was counted, and there was no memory to keep a reference to its record
abbrev pub TalliesOrNot : List ℕ → LaneStop → Lane → Lane → Type 0
TalliesOrNot word stop before after =
    (after.tally ≡ before.tally)
    ⊎ ((stop ≡ stopped.OutOfMemory) × Tallies (word ∷ []) before.tally after.tally)

-- The lane stopped at this word, in the turn that it had begun for it. It keeps the references that it kept, and its
-- seat owns what it owned. Where no other seat may put heads into cells, makes were used for the heads alone that it
-- put there; or the view tells of no record of the word.
pub record StopsAt (d : DomainState CellLaw) (word : List ℕ) (stop : LaneStop)
    (old new : SeatState View) (before after : Lane) : Type 0 where
  pub why : IsWhyStopped d word stop old new
  pub tallies : TalliesOrNot word stop before after
  pub keeper : IsSameKeeper before.keeper after.keeper
  pub keeps :
      Keeps (slots_of_words (word ∷ [])) (adds_for (word ∷ [])) old.view.core.owned old new
  pub grows : GrowsBy (word ∷ []) old.view.client new.view.client
  pub alone :
      BindsAlone d old
      → (new.view.core.makes ≤ old.view.core.makes + slots_of_words grows.made)
      ⊎ IsUntold word old new
  pub number : after.number ≡ before.number
  pub turn : after.turn ≡ before.turn + 1

-- of these words it counted some, and stopped at the next one
pub record Stops (d : DomainState CellLaw) (words : List (List ℕ)) (stop : LaneStop)
    (old new : SeatState View) (before after : Lane) : Type 0 where
  pub front : List (List ℕ)
  pub word : List ℕ
  pub others : List (List ℕ)
  pub are : words ≡ front ++ word ∷ others
  pub last : SeatState View
  pub lane : Lane
  pub counts : Counts d front old last before lane
  pub stops : StopsAt d word stop last new lane after
