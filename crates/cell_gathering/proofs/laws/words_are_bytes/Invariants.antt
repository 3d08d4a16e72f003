use Rattle.std.proofs.Common.{ℕ, ◌<◌, get_or}
use Rattle.cell_rest.specs.cell_law.directory_law.Bytes.{AreBytes}
use Rattle.cell_lanes.specs.lane_work.declared.file.FileText.{FileText}
use Rattle.cell_gathering.proofs.laws.words_are_bytes.Given as goal

abbrev pub invariant-loop-file : goal.invariant-loop-file
invariant-loop-file l =
    (k : ℕ) (d : FileText) → k < l.file-index → AreBytes (get_or l.work.files.items k d).bytes.items
