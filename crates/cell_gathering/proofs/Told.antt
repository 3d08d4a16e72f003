-- A view that tells the files of which lanes keep records tells each word of the work of a slot that is kept.
use Rattle.std.proofs.Common.{ℕ, ◌<◌, ◌≤◌, List, subst, sym}
use Rattle.cell_rest.specs.Kept.{TellsFiles, TellsWord}
use Rattle.cell_rest.specs.cdrc_text.Fold.{holders_in}
use Rattle.cell_rest.specs.cell_law.declared.view.View.{View}
use Rattle.cell_rest.specs.cell_law.plain_state.declared.slot.SlotId.{SlotId}
use Rattle.cell_rest.specs.cell_law.plain_state.Lists.{times}
use Rattle.cell_rest.proofs.Below.record_counts_Told.{held_is_told}
use Rattle.cell_lanes.specs.lane_work.Sizes.{texts_in}
use Rattle.cell_lanes.specs.lane_work.declared.work.Work.{Work}
use Rattle.cell_gathering.specs.Shares.{gathered_files, tickets_of}
use Rattle.cell_gathering.proofs.Files.{same_holders}
use Rattle.cell_gathering.proofs.Shares.{each_ticket}

pub word_is_told : (work : Work) (many : ℕ) → 1 ≤ work.rounds → 0 < many → (kept : List SlotId)
    (v : View) → TellsFiles (gathered_files work many) kept v → (w : List ℕ)
    → 0 < holders_in w (texts_in work) → (s : SlotId) × (0 < times s kept) × TellsWord v w s
word_is_told work many some any kept v tells w held =
    held_is_told (TellsWord v) w (gathered_files work many) kept tells
    (subst (λ n. 0 < n) (sym (same_holders work (tickets_of work many) some
    (each_ticket work many any) w)) held)
