-- What contracts see of a source in memory whose calls can be made to fail.
use Rattle.std.specs.Prelude.{ℕ, Bool, List, ◌||◌, ◌==◌}
use Rattle.std.specs.Option.{is_none}
use Rattle.lane_gate.specs.Causes.{last_count}
use Rattle.lane_gate.specs.Contents.{Entry, content_of}
use Rattle.lane_gate.specs.Failing.{is_failing}

pub record FailingFiles : Type 0 where
  pub entries : List Entry
  -- the numbers of the calls that are to fail
  pub failing : List ℕ
  -- how many calls were made, which is the number of the next one
  pub calls : ℕ
  pub faults : ℕ
  pub overlong : ℕ

-- the next read of that name fails: its number is one of those that are to fail, or the name is no
-- entry, or the count of faults stands at its last value, where it counts as risen in every call
abbrev pub fails : FailingFiles → List ℕ → Bool
fails files name = is_failing files.failing files.calls || is_none (content_of files.entries name)
    || files.faults == last_count
