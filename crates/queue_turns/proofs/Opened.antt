-- The seats of a queue's domain that was just opened are free to push and pop.
use Rattle.std.proofs.Common.{◌≡◌, ◌∙◌, ◌<◌, sym, arith, ap}
use Rattle.std.specs.Prelude.{All}
use Rattle.turn_loops.specs.core_events.Runs.{IsShape}
use Rattle.turn_loops.proofs.Below.core_law_Each.{get_each, length_each}
use Rattle.turn_loops.specs.acquire_retire.Domains.{DomainState}
use Rattle.turn_loops.specs.acquire_retire.Openings.{begun_seat, opened_seats}
use Rattle.turn_loops.specs.acquire_retire.Seats.{SeatState}
use Rattle.turn_loops.proofs.Below.control_word_Beginning.{all_at_rest}
use Rattle.linked_queue.specs.Queues.{CanLay}
use Rattle.linked_queue.specs.queue_law.declared.view.Form.{Form}
use Rattle.linked_queue.specs.queue_law.declared.view.View.{View}
use Rattle.linked_queue.specs.queue_law.Views.{view_of}
use Rattle.linked_queue.specs.queue_protocol.declared.law.QueueLaw.{QueueLaw}
use Rattle.queue_turns.specs.Queueing.{IsFreeToQueue}

module _ (form : Form) (d : DomainState QueueLaw) (shape : IsShape d.shape) where
  pub all_free : All (IsFreeToQueue d) (opened_seats (view_of form) d)
  all_free k other low =
      let first = view_of form in
      let rests = all_at_rest first d shape k other low in
      let count = length_each 0 d.shape.seats (begun_seat first d) in
      let there : k < d.shape.seats = omega arith in
      let is = get_each 0 d.shape.seats k (begun_seat first d) other there in record {
        rest = rests.0;
        room = rests.1;
        here = ap (λ (s : SeatState View). s.view.client.here) is;
        unlaid = ap (λ (s : SeatState View). s.view.client.stand.laid) is;
        number =
            ap (λ (s : SeatState View). s.view.client.number) is
            ∙ sym (ap (λ (s : SeatState View). s.view.core.seat) is);
      }

-- seat 0 may lay the queue
pub root_lays : (d : DomainState QueueLaw) (s : SeatState View) → IsFreeToQueue d s
    → s.view.core.seat ≡ 0 → CanLay s.view.client
root_lays d s free root = record {
  root = free.number ∙ root;
  here = free.here;
  unlaid = free.unlaid;
}
