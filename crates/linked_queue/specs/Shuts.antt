-- How a queue is shut.
use Rattle.std.specs.Prelude.{◌≡◌, true, false, length, None, ℕ, List}
use Rattle.queue_protocol.specs.plain_state.declared.act.EventPlace.TheVariants.{Cell}
use Rattle.slot_store.specs.domain_rule.Views.{own_of}
use Rattle.slot_store.specs.acquire_retire.Domains.{DomainState}
use Rattle.slot_store.specs.acquire_retire.Seats.{SeatState}
use Rattle.slot_store.specs.retiring_stores.Exchanging.{Stores}
use Rattle.queue_protocol.specs.queue_law.declared.view.View.{View}
use Rattle.queue_protocol.specs.queue_law.Chain.{Ends}
use Rattle.queue_protocol.specs.queue_law.Lessons.{TellsNothing}
use Rattle.queue_protocol.specs.queue_law.Opening.{shut_head_next, shut_tail_next, waiting_in}
use Rattle.queue_protocol.specs.queue_law.Words.{whole_of}
use Rattle.queue_protocol.specs.declared.law.QueueLaw.{QueueLaw}
use Rattle.linked_queue.specs.Queues.{ends_of}

-- the queue is laid, and the seat attached
pub record CanShut (v : View) : Type 0 where
  pub laid : v.stand.laid ≡ 2
  pub attached : v.attached ≡ true

-- the view once the head cell was cleared: what waits in the state that the seat knows is noted as left
abbrev pub half_shut_in : Ends → SeatState View → View → View
half_shut_in u seat v = record v {
  attached = false;
  stand = record {
    laid = 3;
    left = waiting_in u (length v.pushed) (whole_of (own_of seat.view).whole);
  };
}

-- and once the tail cell was
abbrev pub shut_in : Ends → SeatState View → View → View
shut_in u seat v = record v {
  attached = false;
  stand = record {
    laid = 4;
    left = waiting_in u (length v.pushed) (whole_of (own_of seat.view).whole);
  };
}

-- The seat put null into the head cell, and then into the tail cell.
pub record Shuts (fits : List ℕ → Type 0) (d : DomainState QueueLaw) (old new : SeatState View) : Type 0 where
  pub half : SeatState View
  pub head :
      Stores fits d (shut_head_next (ends_of d)) TellsNothing (Cell d.protocol.head) None
      old half
  pub tail :
      Stores fits d shut_tail_next TellsNothing (Cell d.protocol.tail) None half new
