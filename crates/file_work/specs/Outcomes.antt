-- What comes of a count of named files, whatever it answers, and whichever seat a refusal hands back.
use Rattle.std.specs.Prelude.{ℕ, ◌≡◌, ◌<◌, ◌⊎◌, List, length, map, Ok, Err, IfErr, IfOk}
use Rattle.std.specs.declared.result.Result.{Result}
use Rattle.lane_gate.specs.Causes.{Rose, Stood}
use Rattle.file_work.specs.Contents.{AreContents, AreTold, Counts, IsTooLong, Told}
use Rattle.file_work.specs.Limits.{HasTooMany, IsWithinLimits, PassesLimit, most_bytes, most_files}
use Rattle.file_work.specs.declared.plan.Plan.{Plan}
use Rattle.file_work.specs.declared.refused.Refused.{Refused}
use Rattle.file_work.specs.declared.refused.Refused.TheVariants as refused

-- contents of the files with these names were counted
pub record IsDone {D : Type 0} (IsCounted : Plan → List (List ℕ) → D → Type 0) (told : Told)
    (names : List (List ℕ)) (plan : Plan) (done : D) : Type 0 where
  pub contents : List (List ℕ)
  pub are : AreContents told names contents
  pub counted : IsCounted plan contents done

-- a limit is passed: by the number of files, by their bytes, or by their pieces
abbrev pub IsTooLarge : Told → List (List ℕ) → ℕ → ℕ → ℕ → Type 0
IsTooLarge told names rounds before now =
    (most_files < length names)
    ⊎ (IsTooLong told most_bytes names before now
    ⊎ ((contents : List (List ℕ)) × AreContents told names contents × HasTooMany rounds contents))

-- of contents of the files, within the limits, this is so
pub record OnContents (told : Told) (names : List (List ℕ)) (rounds : ℕ)
    (holds : List (List ℕ) → Type 0) : Type 0 where
  pub contents : List (List ℕ)
  pub are : AreContents told names contents
  pub within : IsWithinLimits rounds contents
  pub so : holds contents

-- What is so of a seat that found each slot taken, and of one that had no add left, of the work on some contents.
module _ {S : Type 0} (IsFull IsSpent : Plan → List (List ℕ) → S → Type 0) where
  -- why contents within the limit of bytes weren't counted
  abbrev pub IsWhyUncounted : Plan → List (List ℕ) → Refused S → Type 0
  IsWhyUncounted plan contents refused.Read = ⊥
  IsWhyUncounted plan contents refused.TooLarge = HasTooMany plan.rounds contents
  IsWhyUncounted plan contents (refused.Full seat) =
      IsWithinLimits plan.rounds contents × IsFull plan contents seat
  IsWhyUncounted plan contents (refused.Spent seat) =
      IsWithinLimits plan.rounds contents × IsSpent plan contents seat
  IsWhyUncounted plan contents refused.OutOfMemory = Unit {0}

  -- Why nothing was counted: the source failed; a limit is passed; a seat found each slot taken, or had no add left, in
  -- a domain for the work on contents of the files; or there was no memory.
  abbrev pub IsWhyNotDone : Told → List (List ℕ) → Plan → Counts → Refused S → Type 0
  IsWhyNotDone told names plan counts refused.Read = Rose counts.faults counts.faults_now
  IsWhyNotDone told names plan counts refused.TooLarge =
      IsTooLarge told names plan.rounds counts.overlong counts.overlong_now
  IsWhyNotDone told names plan counts (refused.Full seat) =
      OnContents told names plan.rounds (λ contents. IsFull plan contents seat)
  IsWhyNotDone told names plan counts (refused.Spent seat) =
      OnContents told names plan.rounds (λ contents. IsSpent plan contents seat)
  IsWhyNotDone told names plan counts refused.OutOfMemory = Unit {0}

module _ {D S : Type 0} where
  -- a limit was found to be passed, or there was no memory
  abbrev pub IsTooLargeOrNoMemory : Result D (Refused S) → Type 0
  IsTooLargeOrNoMemory (Ok done) = ⊥
  IsTooLargeOrNoMemory (Err refused.Read) = ⊥
  IsTooLargeOrNoMemory (Err refused.TooLarge) = Unit {0}
  IsTooLargeOrNoMemory (Err (refused.Full seat)) = ⊥
  IsTooLargeOrNoMemory (Err (refused.Spent seat)) = ⊥
  IsTooLargeOrNoMemory (Err refused.OutOfMemory) = Unit {0}

  -- it was counted, or refused by a lane, or there was no memory
  abbrev pub IsDoneOrStopped : Result D (Refused S) → Type 0
  IsDoneOrStopped (Ok done) = Unit {0}
  IsDoneOrStopped (Err refused.Read) = ⊥
  IsDoneOrStopped (Err refused.TooLarge) = ⊥
  IsDoneOrStopped (Err (refused.Full seat)) = Unit {0}
  IsDoneOrStopped (Err (refused.Spent seat)) = Unit {0}
  IsDoneOrStopped (Err refused.OutOfMemory) = Unit {0}

-- What a call over the files with these names answers, where the source counted so: contents of the files were counted,
-- or there is a cause. More than 4,096 files are told before any is read, so that this is so then. Where no fault came
-- in between, told contents decide: those that pass a limit are refused for that, and those that don't are not; there
-- may be no memory in place of either.
pub record Answers {D S : Type 0} (IsCounted : Plan → List (List ℕ) → D → Type 0)
    (IsFull IsSpent : Plan → List (List ℕ) → S → Type 0) (told : Told) (names : List (List ℕ))
    (plan : Plan) (counts : Counts) (Untouched : Type 0) (result : Result D (Refused S))
    : Type 0 where
  pub done : IfOk result (IsDone IsCounted told names plan)
  pub why : IfErr result (IsWhyNotDone IsFull IsSpent told names plan counts)
  pub many : most_files < length names → (result ≡ Err refused.TooLarge) × Untouched
  pub refuses :
      (contents : List (List ℕ)) → AreTold told names contents
      → PassesLimit plan.rounds contents → Stood counts.faults counts.faults_now
      → IsTooLargeOrNoMemory result
  pub accepts :
      (contents : List (List ℕ)) → AreTold told names contents
      → IsWithinLimits plan.rounds contents → Stood counts.faults counts.faults_now
      → IsDoneOrStopped result
