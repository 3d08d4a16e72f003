-- What a lane did that began on a seat which was just opened, and ran to its end.
use Rattle.std.proofs.Common.{◌≡◌, ℕ, zero, suc, ◌+◌, ◌<◌, List, [], ◌∷◌, refl, sym, ap, subst, ◌∙◌, arith}
use Rattle.std.specs.Prelude.{length, slice_index_or, Result}
use Rattle.law_lesson.specs.plain_state.Lists.{times}
use Rattle.domain_audit.specs.core_events.declared.view.CoreView.{CoreView}
use Rattle.domain_audit.specs.core_events.declared.view.Note.{Note}
use Rattle.domain_audit.specs.core_events.declared.view.Note.TheVariants as note
use Rattle.domain_audit.specs.core_events.Views.{no_notes, room_of}
use Rattle.domain_audit.proofs.Below.core_law_Each.{get_each, length_each}
use Rattle.domain_audit.proofs.Below.core_law_Kit.{times_none}
use Rattle.domain_audit.specs.acquire_retire.Domains.{DomainState}
use Rattle.domain_audit.specs.acquire_retire.Seats.{SeatState}
use Rattle.domain_audit.specs.control_word.Resting.{IsUnderNone}
use Rattle.words_rest.specs.words_law.Views.{View}
use Rattle.lane_domain.specs.words_protocol.declared.law.WordsLaw.{WordsLaw}
use Rattle.lane_domain.specs.lane_files.declared.shared.Shared.{Shared}
use Rattle.lane_domain.specs.lane_files.lane_work.declared.lane.Lane.{Lane}
use Rattle.lane_domain.specs.lane_files.declared.refusal.LaneStop.{LaneStop}
use Rattle.lane_domain.specs.lane_files.lane_work.declared.work.Work.{Work}
use Rattle.lane_domain.specs.Opened.{fresh_lanes, fresh_seat}
use Rattle.lane_reports.specs.declared.done.Done.{Done}
use Rattle.lane_reports.specs.Deeds.{IsFresh, IsNew, LaneDid}
use Rattle.lane_reports.specs.Gathering.{EachDid}
use Rattle.lane_reports.proofs.Told.{did_by_run}
use Rattle.lane_domain.specs.declared.ending.LaneEnd.{LaneEnd}
use Rattle.lane_domain.specs.Beginning.{Attaches, IsNewLane}
use Rattle.lane_domain.specs.Ending.{EndAll, EndsLane, RunsOrStops}
use Rattle.lane_reports.specs.Parting.{AllRan, RanToEnd}

no_note : (j : ℕ) → slice_index_or no_notes j note.Idle ≡ note.Idle
no_note zero = refl
no_note (suc zero) = refl
no_note (suc (suc zero)) = refl
no_note (suc (suc (suc zero))) = refl
no_note (suc (suc (suc (suc j)))) = refl

pub under_none : (v : CoreView) → v.notes ≡ no_notes → IsUnderNone v
under_none v is = λ j. ap (λ (ns : List Note). slice_index_or ns j note.Idle) is ∙ no_note j

module _ (fits : List ℕ → Type 0) (d : DomainState WordsLaw) where
  fresh : (n : ℕ) (begun : SeatState View) → Attaches fits d (fresh_seat d n) begun
      → IsFresh n begun
  fresh n begun attaches = record {
    number = ap (λ (v : CoreView). v.seat) attaches.leaves.same;
    named = ap (λ (v : View). v.0.number) attaches.client;
    none = under_none begun.view.core attaches.nothing.notes;
    room = ap (λ (v : CoreView). v.room) attaches.leaves.same
        ∙ sym (ap (λ (v : CoreView). room_of v.shape) attaches.leaves.same);
    tickets = attaches.nothing.tickets;
    pushed = attaches.nothing.pushed;
    popped = attaches.nothing.popped;
    owns = record {
      strongly = λ x. attaches.nothing.owned x ∙ sym (times_none x);
      weakly = λ x. ap (times x) attaches.nothing.weaks ∙ times_none x;
    };
  }

  new_lane : (n : ℕ) (lane : Lane) → IsNewLane n lane → IsNew lane
  new_lane n lane is = record {
    tally = record { counts = λ w. is.counts w; sum = is.total };
    kept = is.kept;
  }

  module _ (on : Shared) (work : Work) where
    did_one : (n : ℕ) (ended : LaneEnd) (one : Done)
        → EndsLane fits d on work n (fresh_seat d (1 + n)) ended → RanToEnd ended one
        → LaneDid work d (1 + n) one.seat one.lane
    did_one n ended one ends ran =
        subst (λ (x : Done). LaneDid work d (1 + n) x.seat x.lane) (sym ran.1)
        (did_by_run work d on (1 + n) ends.begun ended.seat ends.lane ended.lane
        (fresh (1 + n) ends.begun ends.attaches) (new_lane n ends.lane ends.is_new)
        (subst (λ (r : Result (Unit {0}) LaneStop).
        RunsOrStops fits d work r ends.begun ended.seat ends.lane ended.lane) ran.0 ends.runs)
        ends.ready)

    all_did : (k : ℕ) (ends : List LaneEnd) (done : List Done)
        → ((i : ℕ) (other : LaneEnd) → i < length ends
        → EndsLane fits d on work (k + i) (fresh_seat d (1 + (k + i))) (slice_index_or ends i other))
        → AllRan ends done → EachDid work d (1 + k) done
    all_did k [] [] each ran = tt
    all_did k [] (x ∷ done) each ran = absurd ran
    all_did k (e ∷ ends) [] each ran = absurd ran
    all_did k (e ∷ ends) (x ∷ done) each ran =
        let same : k + 0 ≡ k = omega arith in
        let next : 1 + (k + 1) ≡ 1 + k + 1 = omega arith in (
          did_one k e x
              (subst (λ m. EndsLane fits d on work m (fresh_seat d (1 + m)) e) same
              (each 0 e (omega arith))) ran.0,
          subst (λ m. EachDid work d m done) next
              (all_did (k + 1) ends done
              (λ i other less.
              let e' : k + suc i ≡ k + 1 + i = omega arith in
              subst (λ m. EndsLane fits d on work m (fresh_seat d (1 + m))
              (slice_index_or ends i other)) e' (each (suc i) other (omega (arith, less))))
              ran.1),
        )

    -- the lanes of a domain that was just opened, where all ran to their end
    pub lanes_did : (lanes : ℕ) (seats : List (SeatState View)) (ends : List LaneEnd)
        (done : List Done) → seats ≡ fresh_lanes d lanes → EndAll fits d on work seats ends
        → AllRan ends done → EachDid work d 1 done
    lanes_did lanes seats ends done are all ran =
        all_did 0 ends done
        (λ i other less.
        let many = all.many in let size = ap length are in
        let count = length_each 1 lanes (fresh_seat d) in
        let zero_more : i ≡ 0 + i = omega arith in
        let below : i < lanes = omega (arith, less, many, size, count) in
        subst (λ m. EndsLane fits d on work m (fresh_seat d (1 + m)) (slice_index_or ends i other))
        zero_more
        (subst (λ s. EndsLane fits d on work i s (slice_index_or ends i other))
        (ap (λ (l : List (SeatState View)). slice_index_or l i (fresh_seat d 0)) are
        ∙ get_each 1 lanes i (fresh_seat d) (fresh_seat d 0) below)
        (all.each i (fresh_seat d 0) other (omega (arith, less, many))))) ran

    pub as_many : (lanes : ℕ) (seats : List (SeatState View)) (ends : List LaneEnd)
        → seats ≡ fresh_lanes d lanes → EndAll fits d on work seats ends → length ends ≡ lanes
    as_many lanes seats ends are all =
        let many = all.many in let size = ap length are in
        let count = length_each 1 lanes (fresh_seat d) in omega (arith, many, size, count)
