-- What contracts see of a source in memory that never fails.
use Rattle.std.specs.Prelude.{ℕ, List, []}
use Rattle.std.specs.Option.{unwrap_or}
use Rattle.lane_gate.specs.Contents.{Entry, content_of}

pub record NeverFailingFiles : Type 0 where
  pub entries : List Entry
  pub overlong : ℕ

-- the content under a name, which is empty where the name is no entry
abbrev pub content_or_empty : NeverFailingFiles → List ℕ → List ℕ
content_or_empty files name = unwrap_or (content_of files.entries name) []
