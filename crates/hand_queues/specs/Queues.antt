-- When a call on a queue of either form may be made: what the domain has.
use Rattle.std.specs.Prelude.{ℕ}
use Rattle.double_link_queue.specs.acquire_retire.Domains.{DomainState}
use Rattle.double_link_queue.specs.queue_law.declared.view.Form.{Form}
use Rattle.double_link_queue.specs.queue_law.declared.view.Form.TheVariants.{Linked, Double}
use Rattle.double_link_queue.specs.queue_protocol.declared.law.QueueLaw.{QueueLaw}
use Rattle.double_link_queue.specs.linked_queue.Queues.{IsQueueOf}
use Rattle.double_link_queue.specs.Queues.{IsDoubleOf}
use Rattle.hand_queues.specs.declared.any_queue.AnyQueue.{AnyQueue}
use Rattle.hand_queues.specs.declared.any_queue.AnyQueue.TheVariants as any

-- the law is that of this queue, in its form and over its two cells, and the domain has them
abbrev pub IsAnyOf : AnyQueue → DomainState QueueLaw → Type 0
IsAnyOf (any.Linked q) d = IsQueueOf q.head q.tail d
IsAnyOf (any.Double q) d = IsDoubleOf q.head q.tail d

-- the queue of this form over these two cells
abbrev pub queue_in : Form → ℕ → ℕ → AnyQueue
queue_in Linked i j = any.Linked (record { head = i; tail = j })
queue_in Double i j = any.Double (record { head = i; tail = j })
