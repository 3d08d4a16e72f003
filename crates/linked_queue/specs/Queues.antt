-- When a call on a queue may be made: what the domain has, and what the seat's view says.
use Rattle.std.specs.Prelude.{ℕ, ◌≡◌, ◌<◌, true}
use Rattle.slot_store.specs.acquire_retire.Domains.{DomainState}
use Rattle.queue_protocol.specs.queue_law.Chain.{Ends, ends}
use Rattle.queue_protocol.specs.queue_law.declared.view.View.{View}
use Rattle.queue_protocol.specs.queue_law.declared.view.Form.TheVariants.{Linked}
use Rattle.queue_protocol.specs.queue_law.Views.{no_eyes, no_load}
use Rattle.queue_protocol.specs.declared.law.QueueLaw.{QueueLaw}

-- the queue of which the domain's law is
abbrev pub ends_of : DomainState QueueLaw → Ends
ends_of d = ends d.protocol.form d.protocol.head d.protocol.tail

-- the law is that of a linked queue over these two cells, and the domain has them
pub record IsQueueOf (i j : ℕ) (d : DomainState QueueLaw) : Type 0 where
  pub form : d.protocol.form ≡ Linked
  pub head : d.protocol.head ≡ i
  pub tail : d.protocol.tail ≡ j
  pub head_there : i < d.shape.cells
  pub tail_there : j < d.shape.cells

-- the seat is seat 0, and has laid nothing yet
pub record CanLay (v : View) : Type 0 where
  pub root : v.number ≡ 0
  pub here : v.here ≡ true
  pub unlaid : v.stand.laid ≡ 0

-- the seat takes part in the queue, which is laid
pub record IsAttached (v : View) : Type 0 where
  pub here : v.here ≡ true
  pub attached : v.attached ≡ true

-- all of a view but what its seat sees
abbrev pub beside_eyes : View → View
beside_eyes v = record v { eyes = no_eyes }

-- all of a view but its notes on single nodes: what the seat pushed and popped, who it is, and how far it has laid the
-- queue
abbrev pub deeds_in : View → View
deeds_in v = record v { eyes = no_eyes; load = no_load; dummy = 0; dummy_life = 0 }
