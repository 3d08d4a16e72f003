-- What seat 0 has once it has shut the queue and settled.
use Rattle.std.specs.Prelude.{◌≡◌, []}
use Rattle.domain_audit.specs.acquire_retire.Domains.{DomainState}
use Rattle.domain_audit.specs.acquire_retire.Seats.{SeatState}
use Rattle.lane_domain.specs.linked_queue.Queues.{ends_of}
use Rattle.lane_domain.specs.linked_queue.Shuts.{shut_in}
use Rattle.domain_audit.specs.slot_store.Leftovers.{LeavesCycles}
use Rattle.words_rest.specs.words_law.Views.{View}
use Rattle.lane_domain.specs.words_protocol.declared.law.WordsLaw.{WordsLaw}
use Rattle.lane_domain.specs.lane_files.Ready.{Owns}
use Rattle.lane_domain.specs.lane_files.Whys.{of_queue, queue_of}

-- Of the queue it has noted what was left, in the state that it knew then; of the directory it knows what it knew. It
-- has nothing retired, dying or ripe, and only cycles are left beside what it owns. What it owns, and what it has
-- beside, is as it was.
pub record ShutsAndSettles (d : DomainState WordsLaw) (old new : SeatState View) : Type 0 where
  pub client :
      new.view.client
      ≡ (shut_in (ends_of (queue_of d)) (of_queue old) old.view.client.0, old.view.client.1)
  pub retired : new.view.core.retired ≡ []
  pub dying : new.view.core.dying ≡ []
  pub ripe : new.view.core.ripe ≡ []
  pub cycles : LeavesCycles new.view
  pub owns : Owns old.view.core.owned old new
