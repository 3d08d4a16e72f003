-- Refusals of counts, whichever seats they hand back.
use Rattle.cdrc_scripts.specs.acquire_retire.Seats.{SeatState}
use Rattle.epoch_work.specs.cell_reports.cell_lanes.cell_calls.cell_law.declared.view.View.{View as CellView}
use Rattle.epoch_work.specs.cell_reports.epoch_refs.epoch_domain.Seats.{SeatState as EpochSeat}
use Rattle.words_work.specs.file_work.declared.refused.Refused.{Refused}
use Rattle.words_work.specs.file_work.declared.refused.Refused.TheVariants as refused
use Rattle.words_work.specs.words_law.Views.{View}
use Rattle.cdrc_run.specs.declared.outcome.RefusedSeat.{RefusedSeat}
use Rattle.cdrc_run.specs.declared.outcome.RefusedSeat.TheVariants as seat

-- the same refusal, with another seat in the place of its own
abbrev pub with_seat : {S T : Type 0} → (S → T) → Refused S → Refused T
with_seat f refused.Read = refused.Read
with_seat f refused.TooLarge = refused.TooLarge
with_seat f (refused.Full s) = refused.Full (f s)
with_seat f (refused.Spent s) = refused.Spent (f s)
with_seat f refused.OutOfMemory = refused.OutOfMemory

abbrev pub of_words : Refused (SeatState View) → Refused RefusedSeat
of_words r = with_seat seat.Words r

abbrev pub of_epoch : Refused (EpochSeat CellView) → Refused RefusedSeat
of_epoch r = with_seat seat.Epoch r

-- it is a seat of a count by announcements, of which this is so; or one of a count in regions
abbrev pub OfWords : (SeatState View → Type 0) → RefusedSeat → Type 0
OfWords So (seat.Words s) = So s
OfWords So (seat.Epoch s) = ⊥

abbrev pub OfEpoch : (EpochSeat CellView → Type 0) → RefusedSeat → Type 0
OfEpoch So (seat.Words s) = ⊥
OfEpoch So (seat.Epoch s) = So s
