-- What a seat may push, and what the one part of a view asks of the other's next view.
use Rattle.std.specs.Prelude.{◌⊎◌, Contains}
use Rattle.queue_law.specs.declared.view.Item.{Item}
use Rattle.queue_law.specs.declared.view.View.{View as QueueView}
use Rattle.queue_law.specs.Lists.{taken_items}
use Rattle.watch_law.specs.Payloads.{IsDelivery}
use Rattle.watch_law.specs.Views.{Address, View}
use Rattle.watch_law.specs.News.{NewsView, IsOf}

-- a seat may push what is no delivery, and a delivery that it gave an observer
abbrev pub MayPush : NewsView → Item → Type 0
MayPush v x = (¬ (IsDelivery x.payload)) ⊎ ((a : Address) × Contains v.1.addressed a × IsOf a x)

-- the queue's next view has pushed nothing more than what the seat may push
abbrev pub PushesAddressed : NewsView → QueueView → Type 0
PushesAddressed v w = (x : Item) → Contains (taken_items w.pushed) x
    → Contains (taken_items v.0.pushed) x ⊎ MayPush v x

-- the next view of observers keeps each address
abbrev pub KeepsAll : NewsView → View → Type 0
KeepsAll v w = (a : Address) → Contains v.1.addressed a → Contains w.addressed a
