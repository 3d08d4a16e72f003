-- A new lane has room for all its words, and its seat may bind a head for each of them.
use Rattle.std.proofs.Common.{◌≡◌, ℕ, suc, ◌+◌, ◌*◌, ◌<◌, ◌≤◌, List, ◌∷◌, ap, subst, ◌∙◌, arith}
use Rattle.std.specs.Prelude.{Result, Ok, Err, IfErr, OnOk, length, slice_index_or}
use Rattle.std.proofs.lemmas.List.FromFn.{get_or-map-range_with_len, length-map-range_with_len}
use Rattle.std.proofs.lemmas.List.Sums.{get_or-le-sum_by}
use Rattle.cell_lanes.specs.Lanes.{CountsTickets, lane_tickets}
use Rattle.cell_lanes.specs.Ready.{CanCount}
use Rattle.cell_lanes.specs.Stopping.{Stops}
use Rattle.cell_lanes.specs.cell_calls.cell_law.declared.view.View.{View}
use Rattle.cell_lanes.specs.cell_calls.cell_protocol.declared.law.CellLaw.{CellLaw}
use Rattle.cell_lanes.specs.declared.refusal.LaneStop.{LaneStop}
use Rattle.epoch_refs.specs.epoch_domain.Domains.{DomainState}
use Rattle.epoch_refs.specs.epoch_domain.Seats.{SeatState}
use Rattle.lane_work.specs.Sizes.{IsWithinLimits, all_pieces}
use Rattle.lane_work.specs.declared.lane.Lane.{Lane}
use Rattle.lane_work.specs.declared.work.Work.{Work}
use Rattle.cell_domain.specs.Ending.{CountsOrStops, IsNewLane}
use Rattle.cell_domain.specs.Opened.{CanBegin, IsDomainFor, by_lane, lane_words}
use Rattle.cell_domain.proofs.Numbers.{pieces_together}

module _ (work : Work) (lanes i : ℕ) (less : i < lanes) where
  at_lane : (f : List (List ℕ) → ℕ)
      → slice_index_or (by_lane f work lanes) i 0 ≡ f (lane_words work lanes i)
  at_lane f =
      get_or-map-range_with_len (λ j. f (lane_words work lanes j)) 0 lanes i i 0 less (omega arith)

  -- a list that has seat 0's number first
  pub after_first : (f : List (List ℕ) → ℕ) (x : ℕ)
      → slice_index_or (x ∷ by_lane f work lanes) (i + 1) 0 ≡ f (lane_words work lanes i)
  after_first f x =
      let e : i + 1 ≡ suc i = omega arith in
      ap (λ k. slice_index_or (x ∷ by_lane f work lanes) k 0) e ∙ at_lane f

  pub few_words : length (lane_words work lanes i) ≤ work.rounds * all_pieces work
  few_words =
      let all = pieces_together work lanes (omega (arith, less)) in
      let many = length-map-range_with_len (λ j. length (lane_words work lanes j)) 0 lanes in
      let one = get_or-le-sum_by (λ (x : ℕ). x) (by_lane (λ words. length words) work lanes) i 0
      (omega (arith, many, less)) in
      let at = at_lane (λ words. length words) in
      omega (arith, all, one, at)

  pub can_count : (slots : ℕ) (d : DomainState CellLaw) (seat : SeatState View) (lane : Lane)
      → IsWithinLimits work → IsDomainFor work lanes slots d → CanBegin d i seat → IsNewLane i lane
      → CanCount (length (lane_words work lanes i)) seat lane
  can_count slots d seat lane within is begins new =
      let few = few_words in let most = within.interns in let total = new.total in
      let turn = new.turn in
      let bound = ap (λ (s : SeatState View). length s.view.client.bound) begins.fresh in
      let grant = ap (λ (s : SeatState View). s.view.client.grant) begins.fresh
      ∙ ap (λ (gs : List ℕ). slice_index_or gs (i + 1) 0) is.grants
      ∙ after_first (λ words. length words) 0 in record {
        tally = omega (arith, few, most, total);
        turns = omega (arith, few, most, turn);
        binds = omega (arith, bound, grant);
      }

-- what `run_lane` tells of its answer
pub runs_by : {T : Type 0} (d : DomainState CellLaw) (work : Work) (lanes i n : ℕ)
    (end : Result T LaneStop) (old new : SeatState View) (before after : Lane) → n ≡ i
    → OnOk end (CountsTickets d work (lane_tickets work lanes n) old new before after)
    → IfErr end (λ stop. Stops d (lane_words work lanes n) stop old new before after)
    → CountsOrStops d work lanes i end old new before after
runs_by d work lanes i n (Ok done) old new before after is counts stops =
    subst (λ k. CountsTickets d work (lane_tickets work lanes k) old new before after) is counts
runs_by d work lanes i n (Err stop) old new before after is counts stops =
    subst (λ k. Stops d (lane_words work lanes k) stop old new before after) is stops
