-- What a lane leaves of its seat, whether it ran to its end or stopped.
use Rattle.std.proofs.Common.{◌≡◌, ℕ, List, [], ap, ◌∙◌}
use Rattle.std.specs.Prelude.{IfErr, OnOk, Result, Ok, Err}
use Rattle.lane_files.specs.core_events.declared.view.CoreView.{CoreView}
use Rattle.lane_files.specs.acquire_retire.Domains.{DomainState}
use Rattle.lane_files.specs.acquire_retire.Seats.{SeatState}
use Rattle.lane_files.specs.words_law.Views.{View}
use Rattle.lane_files.specs.words_protocol.declared.law.WordsLaw.{WordsLaw}
use Rattle.lane_files.specs.lane_work.declared.lane.Lane.{Lane}
use Rattle.lane_files.specs.declared.refusal.LaneStop.{LaneStop}
use Rattle.lane_files.specs.declared.refusal.LaneStop.TheVariants as stopped
use Rattle.lane_files.specs.lane_work.declared.work.Work.{Work}
use Rattle.lane_files.specs.Counting.{StopsInFile}
use Rattle.lane_files.specs.Lanes.{IsWhyStopped, RunsLane, StopsLane, beside_tickets}
use Rattle.lane_files.specs.Work.{words_of}
use Rattle.lane_domain.specs.Ending.{RunsOrStops}

module _ (fits : List ℕ → Type 0) (d : DomainState WordsLaw) where
  stops_beside : (words : List (List ℕ)) (error : _) (old new : SeatState View)
      (before after : Lane) → StopsInFile fits d words error old new before after
      → beside_tickets new.view.core ≡ beside_tickets old.view.core
  stops_beside words error old new before after stops =
      ap (λ (v : CoreView). record v { tickets = [] }) (stops.owns.same ∙ stops.counts.owns.same)

  module _ (work : Work) where
    why_beside : (stop : LaneStop) (old new : SeatState View) (before after : Lane)
        → IsWhyStopped fits d work stop old new before after
        → beside_tickets new.view.core ≡ beside_tickets old.view.core
    why_beside stopped.Spent old new before after why =
        ap (λ (s : SeatState View). beside_tickets s.view.core) why.1
    why_beside (stopped.File error) old new before after (ticket, less, stops) =
        stops_beside (words_of work ticket) error old new before after stops

    pub runs_beside : {T : Type 0} (end : Result T LaneStop) (old new : SeatState View)
        (before after : Lane) → RunsOrStops fits d work end old new before after
        → beside_tickets new.view.core ≡ beside_tickets old.view.core
    runs_beside (Ok done) old new before after runs = runs.counts.owns.same
    runs_beside (Err stop) old new before after stops =
        why_beside stop stops.last new stops.lane after stops.why ∙ stops.counts.owns.same

    pub runs_by : {T : Type 0} (end : Result T LaneStop) (old new : SeatState View)
        (before after : Lane) → OnOk end (RunsLane work old new before after)
        → IfErr end (λ stop. StopsLane fits d work stop old new before after)
        → RunsOrStops fits d work end old new before after
    runs_by (Ok done) old new before after runs stops = runs
    runs_by (Err stop) old new before after runs stops = stops
