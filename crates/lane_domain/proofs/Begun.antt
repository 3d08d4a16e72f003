-- A seat that attaches before its lane runs.
use Rattle.std.proofs.Common.{◌≡◌, [], ap, ◌∙◌, arith}
use Rattle.lane_files.specs.core_events.declared.view.CoreView.{CoreView}
use Rattle.lane_files.specs.core_events.Views.{note_of}
use Rattle.lane_files.specs.core_events.Steps.{HasRoom}
use Rattle.lane_files.specs.acquire_retire.Domains.{DomainState}
use Rattle.lane_files.specs.acquire_retire.Seats.{SeatState}
use Rattle.lane_files.specs.control_word.Resting.{IsAtRest}
use Rattle.lane_files.specs.directory_law.declared.view.View.{View as DirectoryView}
use Rattle.lane_files.specs.text_reading.Reading.{HasTwoFree}
use Rattle.lane_files.specs.linked_queue.Attaching.{attached_in}
use Rattle.lane_files.specs.linked_queue.Leaving.{Leaves}
use Rattle.lane_files.specs.linked_queue.Waits.{AttachesAtLast}
use Rattle.lane_files.specs.part_calls.Parts.{StaysBeside}
use Rattle.lane_files.specs.words_law.Views.{View}
use Rattle.lane_files.specs.words_protocol.declared.law.WordsLaw.{WordsLaw}
use Rattle.lane_files.specs.declared.shared.Shared.{Shared}
use Rattle.lane_files.specs.Ready.{IsReady}
use Rattle.lane_files.specs.Whys.{of_queue, queue_of}
use Rattle.lane_files.specs.Lanes.{beside_tickets}
use Rattle.lane_domain.specs.Beginning.{Attaches, CanBegin, HasDoneNothing}

module _ (d : DomainState WordsLaw) (on : Shared) (seat begun : SeatState View)
    (begins : CanBegin d on seat)
    (attached : begun.view.client.0 ≡ attached_in seat.view.client.0)
    (leaves : Leaves seat.view.core.owned (of_queue seat) (of_queue begun))
    (beside : StaysBeside (λ (v : View). v.0) (λ (v : View) w. (w, v.1)) seat begun) where
  directory_same : begun.view.client.1 ≡ seat.view.client.1
  directory_same = ap (λ (v : View). v.1) beside

  none_done : HasDoneNothing begun
  none_done = let was = begins.nothing in record {
    owned = λ x. leaves.owns x ∙ was.owned x;
    weaks = ap (λ (v : CoreView). v.weaks) leaves.same ∙ was.weaks;
    notes = ap (λ (v : CoreView). v.notes) leaves.same ∙ was.notes;
    tickets = ap (λ (v : CoreView). v.tickets) leaves.same ∙ was.tickets;
    left_seats = ap (λ (v : CoreView). v.left_seats) leaves.same ∙ was.left_seats;
    pushed = ap (λ v. v.pushed) attached ∙ was.pushed;
    popped = ap (λ v. v.popped) attached ∙ was.popped;
    directory = directory_same ∙ was.directory;
  }

  pub attaches_by : (fits : _) → AttachesAtLast fits (queue_of d) (of_queue seat) (of_queue begun)
      → begun.view.core.makes ≡ seat.view.core.makes → Attaches fits d seat begun
  attaches_by fits looks makes = record {
    looks = looks;
    client = beside ∙ ap {B = View} (λ q. (q, seat.view.client.1)) attached;
    leaves = leaves;
    makes = makes;
    nothing = none_done;
  }

  two_free : HasTwoFree begun.view.core
  two_free = (
    1,
    2,
    omega arith,
    omega arith,
    omega arith,
    ap (λ ns. note_of (record begun.view.core { notes = ns }) 1) none_done.notes,
    ap (λ ns. note_of (record begun.view.core { notes = ns }) 2) none_done.notes,
  )

  pub ready_by : IsAtRest d begun → HasRoom begun.view.core → IsReady d on begun
  ready_by rest room =
      let used = ap (λ (v : DirectoryView). v.used) none_done.directory in
      let quota = ap (λ (v : DirectoryView). v.quota) none_done.directory in record {
        rest = rest;
        room = room;
        queue = begins.queue;
        over = begins.over;
        attached = record {
          here = ap (λ v. v.here) attached ∙ begins.here;
          attached = ap (λ v. v.attached) attached;
        };
        quota = omega arith;
        free = two_free;
      }

  pub beside_begun : beside_tickets begun.view.core ≡ beside_tickets seat.view.core
  beside_begun = ap (λ (v : CoreView). record v { weaks = []; tickets = [] }) leaves.same
