-- A lane that ran from a fresh seat and a new `Lane` did what these tell.
use Rattle.std.proofs.Common.{◌≡◌, ℕ, List, [], ◌++◌, sym, ap, subst, ◌∙◌, arith}
use Rattle.domain_audit.specs.core_events.declared.view.CoreView.{CoreView}
use Rattle.domain_audit.specs.core_events.Views.{note_of, room_of}
use Rattle.domain_audit.proofs.Below.core_law_Kit.{times_append, times_none}
use Rattle.domain_audit.specs.counted_handles.Handles.{Handle}
use Rattle.domain_audit.specs.acquire_retire.Domains.{DomainState}
use Rattle.domain_audit.specs.acquire_retire.Seats.{SeatState}
use Rattle.words_rest.specs.queue_law.declared.view.Item.{Item}
use Rattle.words_rest.specs.queue_law.declared.view.Taken.{Taken}
use Rattle.words_rest.specs.queue_law.declared.view.View.{View as QueueView}
use Rattle.words_rest.specs.words_law.Views.{View}
use Rattle.lane_domain.specs.words_protocol.declared.law.WordsLaw.{WordsLaw}
use Rattle.lane_domain.specs.lane_files.Passed.{by_seat}
use Rattle.lane_domain.specs.lane_files.declared.shared.Shared.{Shared}
use Rattle.lane_domain.specs.lane_files.Ready.{IsReady}
use Rattle.lane_domain.specs.lane_files.lane_work.declared.lane.Lane.{Lane}
use Rattle.lane_domain.specs.lane_files.lane_work.declared.work.Work.{Work}
use Rattle.lane_domain.specs.lane_files.Keeping.{slots_of}
use Rattle.lane_domain.specs.lane_files.Lanes.{KeepsFiles, RunsLane}
use Rattle.lane_domain.specs.lane_files.Work.{kept_files}
use Rattle.lane_reports.specs.Deeds.{IsFresh, IsNew, IsTallyOf, LaneDeeds, LaneDid, MayLeave, OwnsJust, PassedItems}

-- what was done, where nothing was done before
from_none : {xs : List Taken} (m n : ℕ) (ys : List Taken) (pushes : List Item) → ys ≡ xs ++ by_seat m pushes
    → xs ≡ [] → m ≡ n → ys ≡ by_seat n pushes
from_none m n ys pushes is none same =
    is ∙ ap (λ (l : List Taken). l ++ by_seat m pushes) none ∙ ap (λ k. by_seat k pushes) same

module _ (work : Work) (d : DomainState WordsLaw) (on : Shared) (n : ℕ) (begun seat : SeatState View)
    (before after : Lane) (fresh : IsFresh n begun) (new : IsNew before)
    (run : RunsLane work begun seat before after) (ready : IsReady d on seat) where
  abbrev deeds : LaneDeeds
  deeds = record {
    tickets = run.tickets;
    pushes = run.counts.takes.counts.pushes;
    pops = run.counts.takes.counts.pops;
    words = run.counts.takes.words;
  }

  passed : PassedItems work n deeds seat.view.client
  passed = record {
    pushed = from_none begun.view.client.0.number n seat.view.client.0.pushed deeds.pushes
        (ap (λ (q : QueueView). q.pushed) run.counts.takes.counts.deeds) fresh.pushed fresh.named;
    popped = from_none begun.view.client.0.number n seat.view.client.0.popped deeds.pops
        (ap (λ (q : QueueView). q.popped) run.counts.takes.counts.deeds) fresh.popped fresh.named;
    pushed_words = run.counts.takes.counts.pushed_words;
    popped_words = run.counts.takes.counts.popped_words;
  }

  counted : IsTallyOf deeds.words after.tally
  counted = record {
    counts = λ w. let a = run.counts.takes.tallies.counts w in let b = new.tally.counts w in
        omega arith;
    sum = let a = run.counts.takes.tallies.sum in let b = new.tally.sum in omega arith;
  }

  kept : after.keeper.kept.items ≡ run.counts.more
  kept = run.counts.kept ∙ ap (λ (l : List Handle). l ++ run.counts.more) new.kept

  owns : OwnsJust (slots_of run.counts.more) seat
  owns = record {
    strongly = λ x. let a = run.counts.owns.strongly x in let b = fresh.owns.strongly x in
        let p = times_append x begun.view.core.owned (slots_of run.counts.more) in
        let z = times_none x in omega arith;
    weakly = λ x. run.counts.owns.weakly x ∙ fresh.owns.weakly x;
  }

  leaves : MayLeave d n seat
  leaves = record {
    number = ap (λ (v : CoreView). v.seat) run.counts.owns.same ∙ fresh.number;
    rest = ready.rest;
    none = λ j. ap (λ (v : CoreView). note_of v j) run.counts.owns.same ∙ fresh.none j;
    few = let a = ap (λ (v : CoreView). v.room) run.counts.owns.same in let b = fresh.room in
        let c = ap (λ (v : CoreView). room_of v.shape) run.counts.owns.same in let h = ready.room in
        omega arith;
    quota = ready.quota;
  }

  pub did_by_run : LaneDid work d n seat after
  did_by_run = record {
    deeds = deeds;
    share = record {
      rest = run.rest;
      is = run.drawn ∙ ap (λ (l : List ℕ). l ++ (run.tickets ++ run.rest)) fresh.tickets;
      inside = run.inside;
      ends = run.ends;
    };
    passed = passed;
    tally = counted;
    keeps = subst (λ (l : List Handle). KeepsFiles (kept_files work run.tickets) (slots_of l) seat)
        (sym kept) run.counts.records;
    owns = subst (λ (l : List Handle). OwnsJust (slots_of l) seat) (sym kept) owns;
    leaves = leaves;
  }
