-- What a push does and leaves, on a queue of either form, and why nothing was pushed.
use Rattle.std.specs.Prelude.{ℕ, ◌≡◌, List}
use Rattle.double_link_queue.specs.plain_state.declared.slot.SlotId.{SlotId}
use Rattle.double_link_queue.specs.core_events.Views.{without}
use Rattle.double_link_queue.specs.acquire_retire.Domains.{DomainState}
use Rattle.double_link_queue.specs.acquire_retire.Seats.{SeatState}
use Rattle.double_link_queue.specs.queue_law.declared.view.Form.{Form}
use Rattle.double_link_queue.specs.queue_law.declared.view.Form.TheVariants.{Linked, Double}
use Rattle.double_link_queue.specs.queue_law.declared.view.View.{View}
use Rattle.double_link_queue.specs.queue_law.Views.{no_flight}
use Rattle.double_link_queue.specs.queue_protocol.declared.law.QueueLaw.{QueueLaw}
use Rattle.double_link_queue.specs.linked_queue.declared.queue.PushError.{PushError}
use Rattle.double_link_queue.specs.linked_queue.declared.queue.PushError.TheVariants as unpushed
use Rattle.double_link_queue.specs.linked_queue.Pops.{item_in}
use Rattle.double_link_queue.specs.linked_queue.PushLosses.{LosesPush}
use Rattle.double_link_queue.specs.linked_queue.Pushes.{IsWhyRefused, PushesBy, pushed_too}
use Rattle.double_link_queue.specs.linked_queue.Queues.{deeds_in}
use Rattle.double_link_queue.specs.linked_queue.Waits.{LosesAnyNode, PushesAtLast}
use Rattle.double_link_queue.specs.Leaving.{LeavesBoth}
use Rattle.double_link_queue.specs.Pushes.{landed_in}
use Rattle.double_link_queue.specs.Steps as double
use Rattle.double_link_queue.specs.Waits as double_waits

-- all of a view but its notes on single nodes, those of a push in flight too: what the seat pushed and popped, who it
-- is, and how far it has laid the queue
abbrev pub deeds_of : View → View
deeds_of v = landed_in (deeds_in v)

-- The seat has given its reference to the item, and has pushed it, as it knows it. It has no push in flight if it had
-- none before.
pub record Pushes (item : SlotId) (old new : SeatState View) : Type 0 where
  pub leaves : LeavesBoth (without item old.view.core.owned) old.view.core.weaks old new
  pub deeds :
      deeds_of new.view.client ≡ pushed_too (item_in old item) (deeds_of old.view.client)
  pub lands : old.view.client.flight ≡ no_flight → new.view.client.flight ≡ no_flight

-- how many adds a push may lack: it uses no more on a queue of this form
abbrev pub most_adds : Form → ℕ
most_adds Linked = 5
most_adds Double = 7

module _ (fits : List ℕ → Type 0) (d : DomainState QueueLaw) where
  -- all events of a push that answered, on a queue of this form
  abbrev pub PushesIn : Form → SlotId → SeatState View → SeatState View → Type 0
  PushesIn Linked item old new = PushesBy fits d item old new
  PushesIn Double item old new = double.PushesBy fits d item old new

  -- of one that tries again: its tries pushed nothing, and the last one did
  abbrev pub PushesAtLastIn : Form → SlotId → SeatState View → SeatState View → Type 0
  PushesAtLastIn Linked item old new = PushesAtLast fits d item old new
  PushesAtLastIn Double item old new = double_waits.PushesAtLast fits d item old new

  -- all events of a push that was lost, on a queue of this form: a place showed `seen` and then `now` to two of them
  abbrev pub DiffersIn : Form → SlotId → ℕ → ℕ → SeatState View → SeatState View → Type 0
  DiffersIn Linked item seen now old new = LosesPush fits d item seen now old new
  DiffersIn Double item seen now old new = double.LosesPush fits d item seen now old new

  -- a try to push some node was lost
  abbrev pub LosesNodeIn : Form → ℕ → ℕ → SeatState View → SeatState View → Type 0
  LosesNodeIn Linked = LosesAnyNode fits d
  LosesNodeIn Double = double_waits.LosesAnyNode fits d

  -- why nothing was pushed: another seat was quicker, or `make` has refused, or the adds that were left were too few
  abbrev pub IsWhyUnpushed : SlotId → PushError → SeatState View → SeatState View → Type 0
  IsWhyUnpushed item (unpushed.Again seen now back) old new =
      DiffersIn d.protocol.form item seen now old new
  IsWhyUnpushed item (unpushed.Refused r) old new =
      IsWhyRefused fits d (most_adds d.protocol.form) r.why old new
