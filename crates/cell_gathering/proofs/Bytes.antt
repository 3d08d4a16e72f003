-- The pieces of bytes are of bytes.
use Rattle.std.proofs.Common.{◌<◌, All, [], arith}
use Rattle.std.specs.Prelude.{get_or}
use Rattle.std.proofs.lemmas.List.Elements.{All-drop, All-map, All-take}
use Rattle.cell_rest.specs.cdrc_text.Fold.{File}
use Rattle.cell_rest.specs.cdrc_text.Pieces.{bytes_at}
use Rattle.cell_rest.specs.cell_law.directory_law.Bytes.{AreBytes}
use Rattle.cell_lanes.specs.lane_work.FilePieces.{pieces_in}
use Rattle.cell_lanes.specs.lane_work.Sizes.{texts_in}
use Rattle.cell_lanes.specs.lane_work.declared.file.FileText.{FileText}
use Rattle.cell_lanes.specs.lane_work.declared.work.Work.{Work}

pub no_bytes : All AreBytes []
no_bytes k d h = absurd (omega (arith, h))

pieces_small : (file : FileText) → AreBytes file.bytes.items → All AreBytes (pieces_in file)
pieces_small file small =
    All-map AreBytes (bytes_at file.bytes.items) file.pieces (λ k d inside.
    All-take (λ b. b < 256) _ _ (All-drop (λ b. b < 256) _ file.bytes.items small))

pub texts_small : (work : Work) → All (λ (file : FileText). AreBytes file.bytes.items) work.files.items
    → All (λ (words : File). All AreBytes words) (texts_in work)
texts_small work small =
    All-map (λ (words : File). All AreBytes words) pieces_in work.files.items (λ k d inside.
    pieces_small (get_or work.files.items k d) (small k d inside))
