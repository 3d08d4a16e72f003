-- Why nothing was counted, by what was answered for the first lane that stopped.
use Rattle.std.proofs.Common.{◌≡◌, ⊎_elim, ℕ, ◌+◌, ◌^◌, ◌<◌, List, ◌∷◌, ◌++◌, sym, ap, subst, ◌∙◌, append_assoc, arith}
use Rattle.std.specs.Prelude.{Err, length, slice_index_or}
use Rattle.std.proofs.lemmas.List.{get_or-map, length-append}
use Rattle.cell_domain.specs.Ending.{EndAll, EndsLane}
use Rattle.cell_domain.specs.Opened.{AreLanes, CanBegin, IsDomainFor, by_lane, quota_of}
use Rattle.cell_domain.specs.cell_lanes.cell_calls.cell_law.Views.{AreDistinct, texts_of}
use Rattle.cell_domain.specs.cell_lanes.cell_calls.cell_law.declared.view.View.{View}
use Rattle.cell_domain.specs.cell_lanes.cell_calls.cell_protocol.declared.law.CellLaw.{CellLaw}
use Rattle.cell_domain.specs.cell_lanes.declared.refusal.LaneStop.{LaneStop}
use Rattle.cell_domain.specs.cell_lanes.declared.refusal.LaneStop.TheVariants as stopped
use Rattle.cell_domain.specs.declared.ending.LaneEnd.{LaneEnd}
use Rattle.cell_records.proofs.Below.cell_calls_Keeping.{claim_none_then}
use Rattle.cell_domain.proofs.Alone.{one_lacks}
use Rattle.cell_domain.proofs.Enough.{makes_left, slots_lacked, stops_with}
use Rattle.cell_domain.proofs.Numbers.{many}
use Rattle.cell_records.specs.epoch_refs.epoch_core.core_events.declared.shape.Quota.{Quota}
use Rattle.cell_records.specs.epoch_refs.epoch_core.declared.shape.EpochShape.{EpochShape}
use Rattle.cell_records.specs.epoch_refs.epoch_core.declared.view.EpochMove.{EpochMove}
use Rattle.cell_records.specs.epoch_refs.epoch_core.declared.view.EpochView.{EpochView}
use Rattle.cell_records.specs.epoch_refs.epoch_domain.Calls.{IsOf}
use Rattle.cell_records.specs.epoch_refs.epoch_domain.Domains.{DomainState}
use Rattle.cell_records.specs.epoch_refs.epoch_domain.Seats.{SeatState}
use Rattle.cell_records.specs.epoch_refs.Searching.{taken_by}
use Rattle.cell_records.specs.lane_work.Sizes.{slots_of_words, texts_in}
use Rattle.cell_records.specs.lane_work.cdrc_text.Fold.{AreDistinct as AreAllWords}
use Rattle.cell_records.specs.lane_work.Work.{IsWork, all_tickets}
use Rattle.cell_records.specs.lane_work.declared.work.Work.{Work}
use Rattle.cell_reports.specs.declared.counted.EpochCountError.{EpochCountError}
use Rattle.cell_reports.specs.declared.counted.EpochCountError.TheVariants as refused
use Rattle.cell_reports.specs.Parting.{IsAnswerFor, IsFirstRefusal, LearnsHeads}
use Rattle.cell_reports.specs.Refusals.{HasMissedAll, HasSpentAll, IsWhyNothing, ShowsAllTaken}
use Rattle.cell_reports.proofs.Ran.{at_front}

module _ (work : Work) (lanes slots i : ℕ) (d : DomainState CellLaw) (seat : SeatState View)
    (is_work : IsWork work) (is : IsDomainFor work lanes slots d) (less : i < lanes)
    (begins : CanBegin d i seat) (ending : LaneEnd) (ends : EndsLane d work lanes i seat ending)
  where
    -- the adds that the seat was given
    adds_given : seat.view.core.quota.adds ≡ 2 ^ 40
    adds_given =
        let none : Quota = record { makes = 0; adds = 0 } in
        let parts = by_lane slots_of_words work lanes in
        let all = many slots_of_words work lanes (all_tickets work) in
        ap (λ (s : SeatState View). s.view.core.quota.adds) begins.fresh
        ∙ ap (λ (qs : List Quota). (slice_index_or qs (i + 1) none).adds) is.quotas
        ∙ ap (λ (q : Quota). q.adds)
        (get_or-map quota_of (0 ∷ parts) (i + 1) 0 none (omega (arith, all, less)))

    spent_all : ending.end ≡ Err stopped.AddsSpent → HasSpentAll work lanes slots ending.seat
    spent_all why =
        let stops = stops_with work lanes slots i d seat is less begins ending ends stopped.AddsSpent
        why in record {
          domain = d;
          is = is;
          of_domain = ends.ready.free.rest.0;
          quota =
              ap (λ (v : EpochView). v.quota.adds)
              (stops.stops.keeps.same ∙ stops.counts.keeps.same)
              ∙ adds_given;
          spent = stops.stops.why;
        }

    module _ (why : ending.end ≡ Err stopped.Full) (after : SeatState View)
        (learns : LearnsHeads ending.seat after) where
      taken : ShowsAllTaken slots after
      taken =
          let misses =
          (stops_with work lanes slots i d seat is less begins ending ends stopped.Full why).stops.why.0
          in
          let full = misses.misses in
          let tries = full.misses.tries in
          let same = ap (λ (z : EpochShape). z.slots) is.shape in record {
            tries = tries;
            words = full.misses.words;
            each = λ s low. full.each s (omega (arith, low, same));
            few = full.few ∙ same;
            front = misses.mid.view.core.trail;
            back = misses.till.0 ++ learns.goes.0;
            last = claim_none_then misses.till.0 learns.goes.0 misses.till.1 learns.goes.1;
            trail =
                learns.goes.2
                ∙ ap (λ (t : List EpochMove). t ++ learns.goes.0)
                (misses.till.2
                ∙ ap (λ (v : EpochView). v.trail ++ misses.till.0) full.misses.goes.core)
                ∙ append_assoc (misses.mid.view.core.trail ++ taken_by tries) misses.till.0
                learns.goes.0
                ∙ append_assoc misses.mid.view.core.trail (taken_by tries)
                (misses.till.0 ++ learns.goes.0);
          }

      of_domain : IsOf d after
      of_domain =
          let was = ends.ready.free.rest.0 in
          (learns.table ∙ was.0, ap (λ (v : EpochView). v.shape) learns.core ∙ was.1)

      one_lane : lanes ≡ 1 → (words : List (List ℕ)) → AreAllWords (texts_in work) words
          → slots < slots_of_words words
      one_lane one words all =
          let zero : i ≡ 0 = omega (arith, one, less) in
          one_lacks work slots d seat ending words is_work
          (subst (λ (n : ℕ). IsDomainFor work n slots d) one is)
          (subst (λ (k : ℕ). CanBegin d k seat) zero begins)
          (subst (λ (x : ℕ × ℕ). EndsLane d work x.0 x.1 seat ending) (λ j. (one j, zero j)) ends)
          why
          (subst (λ (v : View). AreDistinct (texts_of v.bound)) learns.client learns.heads) all

      missed_all : HasMissedAll work lanes slots after
      missed_all = record {
        domain = d;
        is = is;
        of_domain = of_domain;
        few = slots_lacked work lanes slots i d seat is less begins ending ends why;
        taken = taken;
        one = one_lane;
      }

    why_nothing : (stop : LaneStop) (error : EpochCountError) → ending.end ≡ Err stop
        → IsAnswerFor stop ending.seat error → IsWhyNothing work lanes slots error
    why_nothing stopped.MakesSpent error why answer =
        absurd (makes_left work lanes slots i d seat is less begins ending ends why)
    why_nothing stopped.AddsSpent error why answer =
        subst (IsWhyNothing work lanes slots) (sym answer) (spent_all why)
    why_nothing stopped.Full error why answer =
        subst (IsWhyNothing work lanes slots) (sym answer.2) (missed_all why answer.0 answer.1)
    why_nothing stopped.OutOfMemory error why answer =
        subst (IsWhyNothing work lanes slots) (sym answer) tt

module _ (work : Work) (lanes slots : ℕ) (d : DomainState CellLaw) (is_work : IsWork work)
    (is : IsDomainFor work lanes slots d) (seats : List (SeatState View))
    (begin : AreLanes d lanes seats) (ends : List LaneEnd) (end : EndAll d work lanes seats ends)
  where
    pub first_why : (error : EpochCountError) → IsFirstRefusal ends error
        → IsWhyNothing work lanes slots error
    first_why error first = ⊎_elim
        (λ (memory : error ≡ refused.OutOfMemory).
        subst (IsWhyNothing work lanes slots) (sym memory) tt)
        (λ one.
        let front = one.0 in
        let ended = one.2 in
        let back = one.3 in
        let refusal = one.6 in
        let i = length front in
        let count = ap length one.4 ∙ length-append front (ended ∷ back) in
        let many = begin.many in
        let as_many = end.many in
        let less : i < lanes = omega (arith, count, many, as_many) in
        let is_ended = ap (λ (es : List LaneEnd). slice_index_or es i ended) one.4
        ∙ at_front front back ended ended in
        why_nothing work lanes slots i d (slice_index_or seats i ended.seat) is_work is less
        (begin.each i ended.seat less) ended
        (subst (EndsLane d work lanes i (slice_index_or seats i ended.seat)) is_ended
        (end.each i ended.seat ended (omega (arith, less, many)))) refusal.0 error refusal.1 refusal.2)
        first
