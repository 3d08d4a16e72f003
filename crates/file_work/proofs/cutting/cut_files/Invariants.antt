use Rattle.std.proofs.Common.{◌≡◌, ◌≤◌, ◌+◌, ◌++◌, All, length, map, vec_capacity, vec_len}
use Rattle.lane_work.specs.cdrc_text.Pieces.{pieces_of}
use Rattle.lane_work.specs.FilePieces.{HasPieces, pieces_in}
use Rattle.file_work.specs.Limits.{most_pieces, pieces_in_all}
use Rattle.file_work.specs.Contents.{bytes_of}
use Rattle.file_work.proofs.cutting.cut_files.Given as goal

-- the first contents are cut, and what pieces they have is no longer left
abbrev pub invariant-loop-content : goal.invariant-loop-content
invariant-loop-content g l = record {
  all : l.yielded ++ l.content-iterator.rest.items ≡ l.fn.contents.items;
  words : map pieces_in l.files.items ≡ map pieces_of (bytes_of l.yielded);
  lies : All HasPieces l.files.items;
  left : l.left + pieces_in_all (map pieces_in l.files.items) ≡ most_pieces;
  room : vec_len l.files + length l.content-iterator.rest.items ≤ vec_capacity l.files;
}
