-- Which makes are refused to lanes of the domain.
use Rattle.std.proofs.Common.{◌≡◌, ◌≢◌, ℕ, ◌+◌, ◌*◌, ◌<◌, List, [], ap, sym, arith}
use Rattle.std.specs.Prelude.{Some, slice_index_or}
use Rattle.std.proofs.lemmas.List.{append-nil}
use Rattle.std.proofs.lemmas.List.FromFn.{get_or-map-range_with_len}
use Rattle.lane_files.specs.core_events.declared.view.CoreView.{CoreView}
use Rattle.lane_files.specs.core_events.Views.{Terms}
use Rattle.lane_files.specs.acquire_retire.Domains.{DomainState}
use Rattle.lane_files.specs.acquire_retire.Seats.{SeatState}
use Rattle.lane_files.specs.linked_queue.Leaving.{Leaves}
use Rattle.lane_files.specs.queue_law.declared.view.Form.{Form}
use Rattle.lane_files.specs.slot_store.declared.making.MakeError.TheVariants as unmade
use Rattle.lane_files.specs.words_law.Views.{View}
use Rattle.lane_files.specs.words_protocol.declared.law.WordsLaw.{WordsLaw}
use Rattle.lane_files.specs.Missing.{HasMissed}
use Rattle.lane_files.specs.Whys.{of_queue, queue_of}
use Rattle.lane_files.specs.lane_work.declared.lane.Lane.{Lane}
use Rattle.lane_files.specs.declared.refusal.LaneStop.{LaneStop}
use Rattle.lane_files.specs.lane_work.declared.work.Work.{Work}
use Rattle.lane_files.specs.Lanes.{StopsLane}
use Rattle.lane_files.specs.Makes.{GrantsMakes, HasItsMakes, cause_of}
use Rattle.lane_files.proofs.Enough.{more_makes, never_spent}
use Rattle.lane_files.proofs.Missing.{missed_on}
use Rattle.lane_domain.specs.Opened.{FindsNoSlot, IsDomainFor, fresh_seat}
use Rattle.lane_domain.specs.Sizes.{all_parts, all_pieces, makes_of}
use Rattle.lane_domain.proofs.Shapes.{few_slots_in}

-- who draws a ticket has the makes for its file
pub makes_there : (work : Work) (lanes slots : ℕ) (form : Form) (d : DomainState WordsLaw)
    → IsDomainFor work lanes slots form d → GrantsMakes d.terms.grants work
makes_there work lanes slots form d is ticket less =
    let terms = ap (λ (ts : Terms). slice_index_or ts.grants ticket 0) is.terms in
    let at = get_or-map-range_with_len (makes_of work) 0 _ ticket ticket 0 less (omega arith) in
    omega (arith, terms, at)

pub attached_makes : (d : DomainState WordsLaw) (n : ℕ) (begun : SeatState View)
    → Leaves (fresh_seat d n).view.core.owned (of_queue (fresh_seat d n)) (of_queue begun)
    → begun.view.core.makes ≡ (fresh_seat d n).view.core.makes → HasItsMakes d begun
attached_makes d n begun leaves makes = record {
  grants = ap (λ (v : CoreView). v.grants) leaves.same;
  makes = omega (arith, makes);
}

-- the trail of seat 0 shows that it found no slot for the queue's first node
pub unlaid_missed : (fits : List ℕ → Type 0) (d : DomainState WordsLaw) (root : SeatState View)
    → FindsNoSlot fits d root → HasMissed d.shape root
unlaid_missed fits d root finds =
    missed_on fits (queue_of d) (of_queue (fresh_seat d 0)) (of_queue root) root [] finds
    (sym (append-nil root.view.core.trail))

module _ (fits : List ℕ → Type 0) (work : Work) (lanes slots : ℕ) (form : Form)
    (d : DomainState WordsLaw) (stop : LaneStop) (begun seat : SeatState View)
    (before after : Lane) (is : IsDomainFor work lanes slots form d) where
  pub makes_left : HasItsMakes d begun → StopsLane fits d work stop begun seat before after
      → cause_of stop ≢ Some unmade.MakesSpent
  makes_left has stops =
      never_spent fits d work stop begun seat before after
      (makes_there work lanes slots form d is) has stops

  pub slots_lacked : StopsLane fits d work stop begun seat before after
      → cause_of stop ≡ Some unmade.Full
      → slots < work.rounds * (all_pieces work + all_parts work) + 2
  slots_lacked stops cause =
      few_slots_in work lanes slots form d is
      (more_makes fits d work stop begun seat before after stops cause)
