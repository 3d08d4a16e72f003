-- Once all seats of lanes have left, seat 0 has gathered what the lanes had.
use Rattle.std.proofs.Common.{◌≡◌, ◌+◌, ◌<◌, List, [], ◌∷◌, ◌++◌, refl, sym, ap, subst, ◌∙◌, arith}
use Rattle.std.specs.Prelude.{length, slice_index_or}
use Rattle.std.proofs.lemmas.List.{append-nil, get_or_at, length-append, length-map}
use Rattle.std.proofs.lemmas.List.FromFn.{length-range_with_len}
use Rattle.cell_lanes.specs.cell_calls.cell_protocol.declared.law.CellLaw.{CellLaw}
use Rattle.cell_rest.specs.cell_law.declared.view.View.{View}
use Rattle.cell_lanes.specs.epoch_refs.epoch_core.declared.shape.EpochShape.{EpochShape}
use Rattle.cell_lanes.specs.epoch_refs.epoch_core.declared.view.LeftEpochSeat.{LeftEpochSeat}
use Rattle.cell_lanes.specs.epoch_refs.epoch_domain.Domains.{DomainState}
use Rattle.cell_lanes.specs.epoch_refs.epoch_domain.Seats.{SeatState}
use Rattle.cell_lanes.specs.lane_work.counted_handles.Handles.{Handle}
use Rattle.cell_lanes.specs.lane_work.declared.work.Work.{Work}
use Rattle.cell_gathering.specs.declared.done.Done.{Done}
use Rattle.cell_gathering.specs.Gathering.{Gathers, Tally}
use Rattle.cell_gathering.specs.Ran.{EachRan, HasRun}
use Rattle.cell_gathering.specs.Shares.{tickets_of}
use Rattle.cell_gathering.proofs.Files.{same_times}
use Rattle.cell_gathering.proofs.Taken.{HasTaken}
use Rattle.cell_gathering.proofs.Shares.{each_ticket}

pub all_gathered : (d : DomainState CellLaw) (work : Work) (done : List Done) (root : SeatState View)
    (tallies : List Tally) (handles : List Handle) → 0 < length done
    → d.shape.seats ≡ length done + 1
    → HasTaken d work (length done) (length done) done root tallies handles
    → Gathers work done root tallies handles
all_gathered d work done root tallies handles some seats had = record {
  alone = (
    had.first,
    ap (λ k. k + 1) many ∙ sym seats
        ∙ ap (λ (z : EpochShape). z.seats) (sym had.ready.free.rest.0.1),
  );
  numbers = had.numbers;
  kept = had.kept;
  owns = had.owns;
  tells = had.tells;
  bound = had.bound;
  joined = had.joined;
  texts = had.texts;
  counts = record {
    many = had.many;
    each = had.each;
    sums = λ w.
        had.sums w
        ∙ same_times work (tickets_of work (length done)) (each_ticket work (length done) some) w;
  };
}
  where
    many : length root.view.core.left_seats ≡ length done
    many =
        sym (length-map root.view.core.left_seats (λ (l : LeftEpochSeat). l.seat))
        ∙ ap length had.numbers ∙ length-range_with_len 1 (length done)

-- all have left, where none is left to leave
pub none_more : (all yielded rest : List Done) → yielded ++ rest ≡ all → length rest ≡ 0
    → yielded ≡ all
none_more all yielded [] is none = sym (append-nil yielded) ∙ is
none_more all yielded (one ∷ rest) is none = absurd (omega (arith, none))

-- who leaves next has run
pub next_ran : (d : DomainState CellLaw) (work : Work) (all yielded rest : List Done) (one : Done)
    → EachRan d work (length all) all → yielded ++ one ∷ rest ≡ all
    → HasRun d work (length all) (length yielded) one
next_ran d work all yielded rest one ran is =
    subst (HasRun d work (length all) (length yielded))
    (ap (λ (xs : List Done). slice_index_or xs (length yielded) one) (sym is)
    ∙ get_or_at yielded one rest one (length yielded) refl)
    (ran.each (length yielded) one
    (let l = ap length is in let p = length-append yielded (one ∷ rest) in omega arith))
