-- A file as its pieces.
use Rattle.std.specs.Prelude.{ℕ, ◌+◌, ◌≤◌, All, List, length, map}
use Rattle.cdrc_text.specs.Pieces.{bytes_at}
use Rattle.lane_work.specs.declared.file.FileText.{FileText}

-- the words that its pieces are, in order
abbrev pub pieces_in : FileText → List (List ℕ)
pieces_in file = map (bytes_at file.bytes.items) file.pieces

-- a place of 1 to 4,096 bytes that lies within n bytes
abbrev pub IsLongPlace : ℕ → ℕ × ℕ → Type 0
IsLongPlace n place = (1 ≤ place.1) × (place.1 ≤ 4096) × (place.0 + place.1 ≤ n)

abbrev pub HasPieces : FileText → Type 0
HasPieces file = All (IsLongPlace (length file.bytes.items)) file.pieces
