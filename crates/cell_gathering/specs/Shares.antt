-- Which tickets all lanes take together, and which files they keep the records of.
use Rattle.std.specs.Prelude.{ℕ, List, map}
use Rattle.std.specs.List.{range_with_len}
use Rattle.cell_lanes.specs.Lanes.{lane_tickets}
use Rattle.cell_rest.specs.cdrc_text.Fold.{File}
use Rattle.cell_lanes.specs.lane_work.Work.{kept_files}
use Rattle.cell_lanes.specs.lane_work.declared.work.Work.{Work}
use Rattle.ticket_shares.specs.Tickets.{together}

-- the tickets of the first n of so many lanes, one lane's after the other's
unfoldable pub tickets_upto : Work → ℕ → ℕ → List ℕ
tickets_upto work lanes n = together (map (lane_tickets work lanes) (range_with_len 0 n))

-- the tickets of all of them
abbrev pub tickets_of : Work → ℕ → List ℕ
tickets_of work lanes = tickets_upto work lanes lanes

-- the files whose records they keep, each as its words: one lane's after the other's
abbrev pub gathered_files : Work → ℕ → List File
gathered_files work lanes = kept_files work (tickets_of work lanes)
