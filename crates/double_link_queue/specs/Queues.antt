-- When a call on a doubly linked queue may be made: what the domain has.
use Rattle.std.specs.Prelude.{ℕ, ◌≡◌, ◌<◌}
use Rattle.weak_part_calls.specs.acquire_retire.Domains.{DomainState}
use Rattle.linked_queue.specs.queue_law.declared.view.Form.TheVariants.{Double}
use Rattle.linked_queue.specs.queue_protocol.declared.law.QueueLaw.{QueueLaw}

-- the law is that of a doubly linked queue over these two cells, and the domain has them
pub record IsDoubleOf (i j : ℕ) (d : DomainState QueueLaw) : Type 0 where
  pub form : d.protocol.form ≡ Double
  pub head : d.protocol.head ≡ i
  pub tail : d.protocol.tail ≡ j
  pub head_there : i < d.shape.cells
  pub tail_there : j < d.shape.cells
