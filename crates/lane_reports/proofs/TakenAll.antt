-- A take that is refused, after others.
use Rattle.std.proofs.Common.{ℕ, ◌+◌, ◌<◌, List, [], arith}
use Rattle.domain_audit.specs.acquire_retire.Seats.{SeatState}
use Rattle.words_rest.specs.words_law.Views.{View}
use Rattle.lane_domain.specs.lane_files.declared.refusal.LaneError.{LaneError}
use Rattle.lane_domain.specs.lane_files.Passed.{Takes}
use Rattle.lane_domain.specs.lane_files.Draining.{IsWhyNotDrained}
use Rattle.lane_domain.proofs.Below.lane_files_PiecesCounted.{takes_more}

pub why_after : (k most : ℕ) (error : LaneError) (a b c : SeatState View)
    (r s t : List (List ℕ × ℕ)) → Takes [] k a.view.client b.view.client r s → k < most
    → IsWhyNotDrained 1 error b c s t → IsWhyNotDrained most error a c r t
why_after k most error a b c r s t first less why = record {
  taken = k + why.taken;
  fewer = let f = why.fewer in omega (arith, f, less);
  last = why.last;
  tally = why.tally;
  takes = takes_more k why.taken a.view.client b.view.client why.last.view.client r s why.tally
      first why.takes;
  why = why.why;
}
