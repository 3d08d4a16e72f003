-- What a read of files tells.
use Rattle.std.specs.Prelude.{ℕ, ◌<◌, ◌⊎◌, List, length, IfSome}
use Rattle.std.specs.declared.option.Option.{Option}
use Rattle.lane_gate.specs.Causes.{Rose}
use Rattle.file_work.specs.Contents.{Counts, IsTooLong, Told}
use Rattle.file_work.specs.Limits.{most_bytes, most_files}
use Rattle.file_work.specs.declared.refused.Refused.{Refused}
use Rattle.file_work.specs.declared.refused.Refused.TheVariants as refused

module _ {S : Type 0} where
  -- why a file of at most so many bytes wasn't read
  abbrev pub IsWhyOneUnread : Option (List ℕ) → ℕ → Counts → Refused S → Type 0
  IsWhyOneUnread told limit counts refused.Read = Rose counts.faults counts.faults_now
  IsWhyOneUnread told limit counts refused.TooLarge =
      Rose counts.overlong counts.overlong_now × IfSome told (λ content. limit < length content)
  IsWhyOneUnread told limit counts (refused.Full seat) = ⊥
  IsWhyOneUnread told limit counts (refused.Spent seat) = ⊥
  IsWhyOneUnread told limit counts refused.OutOfMemory = Unit {0}

  -- why the files with these names weren't read
  abbrev pub IsWhyUnread : Told → List (List ℕ) → Counts → Refused S → Type 0
  IsWhyUnread told names counts refused.Read = Rose counts.faults counts.faults_now
  IsWhyUnread told names counts refused.TooLarge =
      IsTooLong told most_bytes names counts.overlong counts.overlong_now
  IsWhyUnread told names counts (refused.Full seat) = ⊥
  IsWhyUnread told names counts (refused.Spent seat) = ⊥
  IsWhyUnread told names counts refused.OutOfMemory = Unit {0}

  -- why there are no contents of them: there are too many files, or they weren't read
  abbrev pub IsWhyNoContents : Told → List (List ℕ) → Counts → Refused S → Type 0
  IsWhyNoContents told names counts refused.Read = Rose counts.faults counts.faults_now
  IsWhyNoContents told names counts refused.TooLarge =
      (most_files < length names)
      ⊎ IsTooLong told most_bytes names counts.overlong counts.overlong_now
  IsWhyNoContents told names counts (refused.Full seat) = ⊥
  IsWhyNoContents told names counts (refused.Spent seat) = ⊥
  IsWhyNoContents told names counts refused.OutOfMemory = Unit {0}
