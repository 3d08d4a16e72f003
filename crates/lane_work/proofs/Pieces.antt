-- A piece by its number.
use Rattle.std.proofs.Common.{◌≡◌, ℕ, ◌<◌, ◌≤◌, List, [], subst, sym, arith}
use Rattle.std.specs.Prelude.{drop, length, slice_index_or}
use Rattle.std.proofs.lemmas.List.{get_or-map, length-drop, length-map, length-take-le}
use Rattle.std.proofs.lemmas.List.Elements.{All-get_or}
use Rattle.cdrc_text.specs.Pieces.{bytes_at}
use Rattle.lane_work.specs.declared.file.FileText.{FileText}
use Rattle.lane_work.specs.FilePieces.{HasPieces, IsLongPlace, pieces_in}

module _ (file : FileText) (has : HasPieces file) (n : ℕ) (there : n < length file.pieces) where
  at_n : IsLongPlace (length file.bytes.items) (slice_index_or file.pieces n (0, 0))
  at_n = All-get_or (IsLongPlace (length file.bytes.items)) file.pieces n (0, 0) there has

  is_piece : slice_index_or (pieces_in file) n []
      ≡ bytes_at file.bytes.items (slice_index_or file.pieces n (0, 0))
  is_piece = get_or-map (bytes_at file.bytes.items) file.pieces n (0, 0) [] there

  size : length (bytes_at file.bytes.items (slice_index_or file.pieces n (0, 0)))
      ≡ (slice_index_or file.pieces n (0, 0)).1
  size =
      let place = slice_index_or file.pieces n (0, 0) in
      let d = length-drop place.0 file.bytes.items in let a = at_n.2 in
      length-take-le place.1 (drop place.0 file.bytes.items) (omega (arith, a))

  pub sized : (1 ≤ length (slice_index_or (pieces_in file) n []))
      × (length (slice_index_or (pieces_in file) n []) ≤ 4096)
  sized = subst (λ (w : List ℕ). (1 ≤ length w) × (length w ≤ 4096)) (sym is_piece)
      (let s = size in (let a = at_n.0 in omega (arith, a), let a = at_n.1 in omega (arith, a)))

pub pieces_many : (file : FileText) → length (pieces_in file) ≡ length file.pieces
pieces_many file = length-map file.pieces (bytes_at file.bytes.items)
