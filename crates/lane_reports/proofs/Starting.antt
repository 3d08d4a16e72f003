-- Seat 0 before any seat has left, and once all have.
use Rattle.std.proofs.Common.{◌≡◌, ◌+◌, List, [], refl, sym, ap, subst, ◌∙◌, arith}
use Rattle.std.specs.Prelude.{length}
use Rattle.std.proofs.lemmas.List.{length-map}
use Rattle.std.proofs.lemmas.List.FromFn.{length-range_with_len}
use Rattle.domain_audit.specs.core_events.declared.shape.Shape.{Shape}
use Rattle.domain_audit.specs.core_events.declared.view.LeftSeat.{LeftSeat}
use Rattle.domain_audit.specs.counted_handles.Handles.{Handle}
use Rattle.domain_audit.specs.acquire_retire.Seats.{SeatState}
use Rattle.domain_audit.specs.domain_rule.Views.{IsAlone}
use Rattle.words_rest.specs.queue_law.declared.view.Taken.{Taken}
use Rattle.words_rest.specs.queue_law.Lists.{taken_items}
use Rattle.words_rest.specs.words_law.Views.{View}
use Rattle.lane_domain.specs.lane_files.Passed.{KnowsWords}
use Rattle.lane_domain.proofs.Below.lane_files_PiecesCounted.{more_none}
use Rattle.lane_domain.specs.lane_files.lane_work.declared.work.Work.{Work}
use Rattle.lane_domain.specs.lane_files.Work.{words_of_all}
use Rattle.lane_reports.specs.declared.done.Done.{Done}
use Rattle.lane_reports.specs.Gathering.{DrewTickets, HasGathered, IsBare, Tally}
use Rattle.lane_reports.proofs.Lists.{each_none, words_none}
use Rattle.lane_reports.proofs.Tells.{as_many}

-- no seat has left yet
pub gathers_none : (work : Work) (root : SeatState View) → IsBare root
    → HasGathered work [] root root [] []
gathers_none work root bare = record {
  lanes = [];
  tallies = tt;
  drew = subst (λ (l : List LeftSeat). DrewTickets work [] l) (sym bare.left)
      (record { shares = tt; numbers = refl });
  items = record {
    pushed = bare.pushed ∙ sym (each_none (λ x. x.pushes) 1);
    popped = bare.popped ∙ sym (each_none (λ x. x.pops) 1);
    pushed_words = subst (λ (l : List Taken). KnowsWords root.view.client.1 (taken_items l)
        (words_of_all work [])) (sym bare.pushed) ([], tt, sym (words_none work));
    popped_words = subst (λ (l : List Taken). KnowsWords root.view.client.1 (taken_items l) [])
        (sym bare.popped) ([], tt, refl);
    each = tt;
  };
  kept = refl;
  tells = tt;
  alike = tt;
  owns = bare.owns;
  beside = record {
    core = refl;
    queue = refl;
    more = more_none root.view.client.1;
    adds = omega arith;
    makes = omega arith;
  };
}

-- seat 0 is alone once all others have left
pub alone_after : (work : Work) (done : List Done) (start new : SeatState View)
    (tallies : List Tally) (kept : List Handle) (z : Shape)
    → HasGathered work done start new tallies kept → new.view.core.seat ≡ 0
    → new.view.core.shape ≡ z → length done + 1 ≡ z.seats → IsAlone new.view
alone_after work done start new tallies kept z got first shape all = (
  first,
  let a = as_many work got.lanes done new.view.client.1 got.tells in
      let b = ap length got.drew.numbers in
      let c = length-map new.view.core.left_seats (λ (l : LeftSeat). l.seat) in
      let e = length-range_with_len 1 (length got.lanes) in
      let s = ap (λ (y : Shape). y.seats) shape in omega (arith, all),
)
