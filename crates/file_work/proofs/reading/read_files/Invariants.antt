use Rattle.std.proofs.Common.{◌≡◌, ◌≤◌, ◌+◌, ◌-◌, ℕ, List, length, map, string_bytes, take, vec_capacity, vec_len}
use Rattle.file_work.specs.Contents.{AreContents, bytes_in}
use Rattle.file_work.specs.Limits.{most_bytes}
use Rattle.file_work.specs.Contents.{bytes_of}
use Rattle.file_work.proofs.reading.read_files.Given as goal

-- the first contents are read, and what they have is no longer left
abbrev pub invariant-loop-name : goal.invariant-loop-name
invariant-loop-name g l = record {
  read : AreContents (g.F.Files.told l.initial.files)
      (map string_bytes (take l.name-index l.names)) (bytes_of l.contents.items);
  left : l.left + bytes_in (bytes_of l.contents.items) ≡ most_bytes;
  room : vec_len l.contents + (length l.names - l.name-index) ≤ vec_capacity l.contents;
  tells : (other : List ℕ) → g.F.Files.told l.files other ≡ g.F.Files.told l.initial.files other;
  faults : g.F.Files.faults l.initial.files ≤ g.F.Files.faults l.files;
  overlong : g.F.Files.overlong l.initial.files ≤ g.F.Files.overlong l.files;
}
