-- The seats of lanes that were just opened can begin.
use Rattle.std.proofs.Common.{ℕ, ◌+◌, ◌<◌, ◌≤◌, refl, sym, subst, arith}
use Rattle.std.specs.Prelude.{All}
use Rattle.lane_files.specs.plain_state.Limits.{most_slots}
use Rattle.lane_files.proofs.Below.core_law_Each.{get_each, length_each}
use Rattle.lane_files.specs.acquire_retire.Domains.{DomainState}
use Rattle.lane_files.specs.acquire_retire.Seats.{SeatState}
use Rattle.lane_files.specs.queue_law.declared.view.Form.{Form}
use Rattle.lane_files.specs.words_law.Views.{View}
use Rattle.lane_files.specs.words_protocol.declared.law.WordsLaw.{WordsLaw}
use Rattle.lane_files.specs.declared.shared.Shared.{Shared}
use Rattle.lane_files.specs.Ready.{IsReady}
use Rattle.lane_files.specs.lane_work.declared.work.Work.{Work}
use Rattle.lane_domain.specs.Opened.{IsDomainFor, IsDomainForSome, fresh_lanes, fresh_seat}
use Rattle.lane_domain.specs.Sizes.{IsWithinLimits}
use Rattle.lane_domain.proofs.Laid.{no_intern, rests, seats_there, times_none}
use Rattle.lane_domain.specs.Beginning.{CanBegin, HasDoneNothing}

module _ (d : DomainState WordsLaw) (is : IsDomainForSome d) (on : Shared) (root : SeatState View)
    (ready : IsReady d on root) where
  nothing : (n : ℕ) → HasDoneNothing (fresh_seat d n)
  nothing n = record {
    owned = times_none;
    weaks = refl;
    notes = refl;
    tickets = refl;
    left_seats = refl;
    pushed = refl;
    popped = refl;
    directory = sym (no_intern d is n);
  }

  begins : (n : ℕ) → n < d.shape.seats → CanBegin d on (fresh_seat d n)
  begins n less =
      let rest = rests d is n less in record {
        rest = rest.0;
        room = rest.1;
        queue = ready.queue;
        over = ready.over;
        here = refl;
        nothing = nothing n;
      }

  pub all_begin : All (CanBegin d on) (fresh_lanes d is.lanes)
  all_begin k other low =
      let count = length_each 1 is.lanes (fresh_seat d) in let seats = seats_there d is in
      let less : k < is.lanes = omega arith in
      subst (CanBegin d on) (sym (get_each 1 is.lanes k (fresh_seat d) other less))
      (begins (1 + k) (omega (arith, less, seats)))

pub opened_begin : (work : Work) (lanes slots : ℕ) (form : Form) (d : DomainState WordsLaw)
    (on : Shared) (root : SeatState View) → IsWithinLimits work → lanes ≤ 31 → 1 ≤ slots → slots ≤ most_slots
    → IsDomainFor work lanes slots form d → IsReady d on root
    → All (CanBegin d on) (fresh_lanes d lanes)
opened_begin work lanes slots form d on root within few some' most is ready =
    all_begin d (record {
      work = work;
      lanes = lanes;
      slots = slots;
      form = form;
      few = (few, some', most);
      within = within;
      is = is;
    }) on root ready
