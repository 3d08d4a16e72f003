-- What is told of references that are kept to records: which words are told of which slots.
use Rattle.std.specs.Prelude.{ℕ, ◌≡◌, ◌<◌, ◌++◌, List, [], ◌∷◌}
use Rattle.plain_audit.specs.plain_state.declared.slot.SlotId.{SlotId}
use Rattle.plain_audit.specs.plain_state.Lists.{times}

-- `Told w s` says that the word with these bytes is told of slot s
module _ (Told : List ℕ → SlotId → Type 0) where
  -- these words are told of these slots, in order
  abbrev pub TellsEach : List (List ℕ) → List SlotId → Type 0
  TellsEach [] [] = Unit {0}
  TellsEach [] (s ∷ ss) = ⊥
  TellsEach (w ∷ ws) [] = ⊥
  TellsEach (w ∷ ws) (s ∷ ss) = Told w s × TellsEach ws ss

  -- Each of these words has a slot of which it is told. The references that are kept are to these slots, to each once.
  pub record TellsRecords (words : List (List ℕ)) (kept : List SlotId) : Type 0 where
    pub slots : List SlotId
    pub tells : TellsEach words slots
    pub once : (s : SlotId) → 0 < times s slots → times s kept ≡ 1
    pub only : (s : SlotId) → times s slots ≡ 0 → times s kept ≡ 0

  -- the same of several files, whose references are kept one after the other's
  abbrev pub TellsFiles : List (List (List ℕ)) → List SlotId → Type 0
  TellsFiles [] kept = kept ≡ []
  TellsFiles (words ∷ files) kept =
      (first : List SlotId) × (others : List SlotId) × TellsRecords words first
      × TellsFiles files others × (kept ≡ first ++ others)
