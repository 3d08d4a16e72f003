-- The law of a queue and of observers over one domain, where each delivery that is pushed has an observer.
use Rattle.std.specs.Prelude.{◌≡◌, ◌⊎◌, ℕ, ◌≤◌, true, List, length, map, Contains}
use Rattle.plain_protocol.specs.plain_state.State.{Plain, seat_at}
use Rattle.plain_protocol.specs.Acts.{Owned}
use Rattle.protocol_pairs.specs.Parts.{Both}
use Rattle.protocol_pairs.specs.Shares.{either_of}
use Rattle.queue_law.specs.declared.view.Item.{Item}
use Rattle.queue_law.specs.declared.view.View.{View as QueueView}
use Rattle.queue_law.specs.Views as queue
use Rattle.queue_law.specs.Chain.{Ends}
use Rattle.queue_law.specs.Lists.{taken_items}
use Rattle.queue_law.specs.Law.{WholeLaw}
use Rattle.queue_law.specs.Owned as queue_owned
use Rattle.queue_law.specs.Words.{id}
use Rattle.watch_law.specs.Payloads.{IsDelivery, told}
use Rattle.watch_law.specs.Views.{Address, View, no_view, view_at, IsAddressed}
use Rattle.watch_law.specs.Views as watch
use Rattle.watch_law.specs.Law.{Area, WatchLaw}
use Rattle.watch_law.specs.Owned as watch_owned

-- what a seat knows of the queue, and what of observers
abbrev pub NewsView : Type 0
NewsView = QueueView × View

-- the view of a seat that has left
abbrev pub gone : NewsView
gone = (queue.first_view, no_view)

-- the view of seat n at the start
abbrev pub first_view : Ends → ℕ → NewsView
first_view u n = (queue.view_of u.form n, watch.first_view n)

-- the view of seat 0 after a seat has left, from the views of the two
abbrev pub joined : NewsView → NewsView → NewsView
joined v w = (queue.joined v.0 w.0, watch.joined v.1 w.1)

-- what all seats know of the queue, and of observers
abbrev pub queues : List NewsView → List QueueView
queues views = map (λ (v : NewsView). v.0) views

abbrev pub watches : List NewsView → List View
watches views = map (λ (v : NewsView). v.1) views

-- what a queue and observers own together
abbrev pub owns : Ends → Area → Owned
owns u z = either_of (queue_owned.owns u) (watch_owned.owns z)

-- the address is that of the item, as a delivery
pub record IsOf (a : Address) (x : Item) : Type 0 where
  pub slot : a.slot ≡ id x.slot
  pub life : a.life ≡ x.life
  pub event : a.event ≡ told x.payload

-- some view has the item among those that were pushed
abbrev pub WasPushed : List QueueView → Item → Type 0
WasPushed views x = (n : ℕ) × Contains (taken_items (queue.view_at views n).pushed) x

-- each delivery that was pushed has an observer
abbrev pub AllAddressed : List QueueView → List View → Type 0
AllAddressed pushers senders =
    (x : Item) → WasPushed pushers x → IsDelivery x.payload
    → (a : Address) × IsAddressed senders a × IsOf a x

-- a seat that has left knows nothing of observers
abbrev pub Gone : Plain → List View → Type 0
Gone p views = (m : ℕ) → (length p.seats ≤ m) ⊎ ((seat_at p m).left ≡ true)
    → view_at views m ≡ no_view

-- the laws of both, and what was pushed as a delivery is one to an observer
pub record NewsLaw (u : Ends) (z : Area) (p : Plain) (views : List NewsView) : Type 0 where
  pub both : Both (WholeLaw u) (WatchLaw z) p views
  pub sent : AllAddressed (queues views) (watches views)
  pub left : Gone p (watches views)
