-- What sending asks of a seat, beside what it sends.
use Rattle.control_word.specs.acquire_retire.Domains.{DomainState}
use Rattle.control_word.specs.acquire_retire.Seats.{SeatState}
use Rattle.control_word.specs.core_events.Steps.{HasRoom}
use Rattle.control_word.specs.Resting.{IsAtRest}
use Rattle.linked_queue.specs.Queues.{IsAttached}
use Rattle.linked_queue.specs.queue_protocol.declared.law.QueueLaw.{QueueLaw}
use Rattle.watch_protocol.specs.declared.news.NewsLaw.{NewsLaw}
use Rattle.watch_protocol.specs.watch_law.News.{NewsView}
use Rattle.weak_watch.specs.Sending.{queue_in}

-- the seat is at rest in a domain that has this queue, and takes part in the queue
pub record CanSend (is_on : DomainState QueueLaw → Type 0) (d : DomainState NewsLaw)
    (seat : SeatState NewsView) : Type 0 where
  pub rest : IsAtRest d seat
  pub room : HasRoom seat.view.core
  pub queue : is_on (queue_in d)
  pub attached : IsAttached seat.view.client.0
