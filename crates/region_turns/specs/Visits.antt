-- What a seat does in regions: the events of each, with what its looks found.
use Rattle.std.specs.Prelude.{ℕ, ◌≡◌, ◌+◌, ◌%◌, All, List, [], ◌∷◌, ◌++◌, length, Some}
use Rattle.epoch_refs.specs.plain_protocol.plain_state.declared.act.EventPlace.TheVariants.{Cell}
use Rattle.epoch_refs.specs.plain_protocol.plain_state.declared.slot.SlotId.{SlotId}
use Rattle.epoch_refs.specs.epoch_core.declared.act.EpochAct.TheVariants as act
use Rattle.epoch_refs.specs.epoch_core.declared.outcome.EpochOutcome.TheVariants as outcome
use Rattle.epoch_refs.specs.epoch_core.declared.view.EpochMove.{EpochMove}
use Rattle.epoch_refs.specs.epoch_core.declared.view.EpochView.{EpochView}
use Rattle.epoch_refs.specs.Walks.{move}

-- the slot that a look found, and the word that was read of it
pub record Found : Type 0 where
  pub slot : SlotId
  pub word : ℕ

-- a look at a cell, and a read of word 0 of what it found
abbrev pub looked_at : ℕ → Found → List EpochMove
looked_at cell f =
    move (act.Look (Cell cell)) (outcome.Found (Some f.slot))
    ∷ move (act.See f.slot 0) (outcome.Word f.word) ∷ []

-- looks at the cells from number i on, of 16, and after the last one from cell 0 on
abbrev pub looked_from : ℕ → List Found → List EpochMove
looked_from i [] = []
looked_from i (f ∷ found) = looked_at (i % 16) f ++ looked_from (i + 1) found

-- a region: the epoch at which it was opened, and what its looks found
pub record Region : Type 0 where
  pub epoch : ℕ
  pub found : List Found

-- the events of a region, whose looks begin at cell i
abbrev pub visited : ℕ → Region → List EpochMove
visited i r =
    move act.Enter (outcome.Epoch r.epoch)
    ∷ move act.Open outcome.Plain ∷ (looked_from i r.found ++ move act.Exit outcome.Plain ∷ [])

-- regions one after another, each of which begins its looks a cell further
abbrev pub visited_from : ℕ → List Region → List EpochMove
visited_from i [] = []
visited_from i (r ∷ regions) = visited i r ++ visited_from (i + 1) regions

-- it has looked at this cell, which held something, and has read a word of that
pub record HasSeen (cell : ℕ) (old new : EpochView) : Type 0 where
  pub found : Found
  pub events : new.trail ≡ old.trail ++ looked_at cell found

-- it has looked at so many cells, from cell i on, and has read a word of what each held
pub record HasLooked (i looks : ℕ) (old new : EpochView) : Type 0 where
  pub found : List Found
  pub many : length found ≡ looks
  pub events : new.trail ≡ old.trail ++ looked_from i found

-- it has opened a region, has looked at so many cells in it, from cell i on, and has closed it
pub record HasVisited (i looks : ℕ) (old new : EpochView) : Type 0 where
  pub region : Region
  pub many : length region.found ≡ looks
  pub events : new.trail ≡ old.trail ++ visited i region

-- it has done so in n regions, and nothing else; the looks of each begin a cell further
pub record HasVisitedEach (i looks n : ℕ) (old new : EpochView) : Type 0 where
  pub regions : List Region
  pub count : length regions ≡ n
  pub many : All (λ (r : Region). length r.found ≡ looks) regions
  pub events : new.trail ≡ old.trail ++ visited_from i regions
