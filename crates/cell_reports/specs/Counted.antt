-- What seat 0 has once the lanes' seats have left: all that a report is made of.
use Rattle.std.specs.Prelude.{ℕ, ◌≡◌, ◌<◌, List, []}
use Rattle.cell_gathering.specs.Gathering.{IsTextIn}
use Rattle.cell_gathering.specs.Shares.{gathered_files}
use Rattle.cell_gathering.specs.cdrc_text.Fold.{occurrences_in}
use Rattle.cell_records.specs.cell_law.declared.view.View.{View}
use Rattle.cell_records.specs.cell_law.directory_law.Views.{In}
use Rattle.cell_records.specs.cell_law.directory_law.declared.view.Rope.{Rope}
use Rattle.cell_records.specs.cell_law.plain_state.Lists.{times}
use Rattle.cell_records.specs.cell_law.plain_state.declared.slot.SlotId.{SlotId}
use Rattle.cell_records.specs.cell_rest.Kept.{TellsFiles}
use Rattle.cell_records.specs.epoch_refs.epoch_domain.Seats.{SeatState}
use Rattle.cell_records.specs.lane_work.Keeping.{slots_of}
use Rattle.cell_records.specs.lane_work.Sizes.{texts_in}
use Rattle.cell_records.specs.lane_work.counted_handles.Handles.{Handle}
use Rattle.cell_records.specs.lane_work.declared.work.Work.{Work}
use Rattle.cell_records.specs.tally_sums.Sums.{Tallies, counted_in}

-- The seat owns just the references that some lanes kept, and its view tells of them the words of all files of which
-- lanes keep records. It has put no head into a cell itself, and each that it lists has the text of a word of the work.
-- The tallies counted each word as often as it occurs.
pub record HasCounted (work : Work) (kept : List Handle) (tallies : Tallies)
    (root : SeatState View) : Type 0 where
  pub lanes : ℕ
  pub some : 0 < lanes
  pub owns : (s : SlotId) → times s root.view.core.owned ≡ times s (slots_of kept)
  pub tells : TellsFiles (gathered_files work lanes) (slots_of kept) root.view.client
  pub bound : root.view.client.bound ≡ []
  pub texts : (e : Rope) → In e root.view.client.joined → IsTextIn (texts_in work) e.text
  pub counts : (w : List ℕ) → counted_in tallies w ≡ occurrences_in w work.rounds (texts_in work)
