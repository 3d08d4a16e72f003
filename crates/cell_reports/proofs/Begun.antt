-- Lanes that ran to their ends from the seats of a domain that was opened for their work.
use Rattle.std.proofs.Common.{◌≡◌, ℕ, ◌+◌, ◌≤◌, List, sym, ap, subst, ◌∙◌, arith}
use Rattle.std.specs.Prelude.{All, Ok, length, slice_index_or}
use Rattle.cell_domain.specs.Ending.{CountsOrStops, EndAll, EndsLane}
use Rattle.cell_domain.specs.Opened.{AreLanes, CanBegin, IsDomainFor, IsFresh, IsNewRoot}
use Rattle.cell_domain.specs.cell_lanes.cell_calls.cell_law.declared.view.View.{View}
use Rattle.cell_domain.specs.cell_lanes.cell_calls.cell_protocol.declared.law.CellLaw.{CellLaw}
use Rattle.cell_domain.specs.declared.ending.LaneEnd.{LaneEnd}
use Rattle.cell_gathering.specs.Gathering.{IsBare}
use Rattle.cell_gathering.specs.Ran.{EachRan, HasNothing, HasRun}
use Rattle.cell_gathering.specs.declared.done.Done.{Done}
use Rattle.cell_records.specs.epoch_refs.epoch_core.declared.shape.EpochShape.{EpochShape}
use Rattle.cell_records.specs.epoch_refs.epoch_core.declared.view.EpochView.{EpochView}
use Rattle.cell_records.specs.epoch_refs.epoch_domain.Domains.{DomainState}
use Rattle.cell_records.specs.epoch_refs.epoch_domain.Seats.{SeatState}
use Rattle.cell_records.specs.lane_work.declared.work.Work.{Work}
use Rattle.cell_reports.specs.Parting.{AllRan, IsReadyEnd, RanToEnd}
use Rattle.cell_reports.proofs.Ran.{ran_at, ran_many}

fresh_nothing : (d : DomainState CellLaw) (n : ℕ) (seat : SeatState View) → IsFresh d n seat
    → HasNothing seat
fresh_nothing d n seat fresh = record {
  owned = ap (λ (s : SeatState View). s.view.core.owned) fresh;
  bound = ap (λ (s : SeatState View). s.view.client.bound) fresh;
  joined = ap (λ (s : SeatState View). s.view.client.joined) fresh;
}

module _ (d : DomainState CellLaw) (work : Work) (lanes i : ℕ) (begun : SeatState View)
    (begins : CanBegin d i begun) (ended : LaneEnd) (ends : EndsLane d work lanes i begun ended)
    (one : Done) (ran : RanToEnd ended one) where
  has_run_lane : HasRun d work lanes i (record { seat = ended.seat; lane = ended.lane })
  has_run_lane =
      let runs = subst
      (λ end. CountsOrStops d work lanes i end begun ended.seat ends.lane ended.lane) ran.0
      ends.runs in record {
        begun = begun;
        lane = ends.lane;
        seat_new = fresh_nothing d (i + 1) begun begins.fresh;
        lane_new = record {
          number = ends.is_new.number;
          counts = ends.is_new.counts;
          total = ends.is_new.total;
          kept = ends.is_new.kept;
        };
        counts = runs;
        ready = ends.ready;
        seat = ap (λ (v : EpochView). v.seat) runs.counts.keeps.same
            ∙ ap (λ (s : SeatState View). s.view.core.seat) begins.fresh;
      }

  has_run : HasRun d work lanes i one
  has_run = subst (HasRun d work lanes i) (sym ran.1) has_run_lane

pub slots_are : (work : Work) (lanes slots : ℕ) (d : DomainState CellLaw)
    → IsDomainFor work lanes slots d → d.shape.slots ≡ slots
slots_are work lanes slots d is = ap (λ (z : EpochShape). z.slots) is.shape

module _ (d : DomainState CellLaw) (work : Work) (lanes slots : ℕ) (some : 1 ≤ lanes)
    (is : IsDomainFor work lanes slots d) (seats : List (SeatState View))
    (begin : AreLanes d lanes seats) (ends : List LaneEnd) (end : EndAll d work lanes seats ends)
  where
    pub ends_ready : All (IsReadyEnd d) ends
    ends_ready k other less =
        let many = end.many in
        (end.each k other.seat other (omega (arith, many, less))).ready

    -- the root hasn't begun, and is over the same cells
    pub bare_root : (root : SeatState View) → IsNewRoot d root → IsBare d root
    bare_root root new = record {
      ready = record {
        free = new.free;
        over = (begin.each 0 root (omega (arith, some))).ready.over;
        is_open = ap (λ (s : SeatState View). s.view.client.cleared) new.fresh;
      };
      first = ap (λ (s : SeatState View). s.view.core.seat) new.fresh;
      none = fresh_nothing d 0 root new.fresh;
      left = ap (λ (s : SeatState View). s.view.core.left_seats) new.fresh;
    }

    module _ (done : List Done) (ran : AllRan ends done) where
      pub done_many : length done ≡ lanes
      done_many = ran_many ends done ran ∙ end.many ∙ begin.many

      each_of_lanes : EachRan d work lanes done
      each_of_lanes = record {
        some = omega (arith, some);
        many = done_many;
        seats = ap (λ (z : EpochShape). z.seats) is.shape;
        each = λ i other less.
            let many = begin.many in
            let as_many = end.many in
            let ended : LaneEnd = record { seat = other.seat; lane = other.lane; end = Ok tt } in
            has_run d work lanes i (slice_index_or seats i other.seat) (begin.each i other.seat less)
            (slice_index_or ends i ended)
            (end.each i other.seat ended (omega (arith, many, less)))
            (slice_index_or done i other)
            (ran_at ends done ran i ended other (omega (arith, many, as_many, less)));
      }

      pub each_ran : EachRan d work (length done) done
      each_ran = subst (λ (n : ℕ). EachRan d work n done) (sym done_many) each_of_lanes

      pub domain_for : IsDomainFor work (length done) d.shape.slots d
      domain_for =
          subst (λ (x : ℕ × ℕ). IsDomainFor work x.0 x.1 d)
          (λ i. (sym done_many i, sym (slots_are work lanes slots d is) i)) is
