-- What a seat does that receives deliveries, and what it has then.
use Rattle.std.specs.Prelude.{ℕ, zero, suc, ◌≡◌, ◌⊎◌, List, [], ◌∷◌, ◌++◌, Option, Some, None, Result, Ok, Err}
use Rattle.control_word.specs.acquire_retire.Domains.{DomainState}
use Rattle.control_word.specs.acquire_retire.Seats.{SeatState}
use Rattle.control_word.specs.core_events.Views.{without}
use Rattle.control_word.specs.domain_rule.Views.{object_in}
use Rattle.control_word.specs.plain_protocol.Owns.{OwnPart}
use Rattle.control_word.specs.plain_state.declared.act.PlainAct.{PlainAct}
use Rattle.control_word.specs.plain_state.declared.slot.SlotId.{SlotId}
use Rattle.control_word.specs.plain_state.State.{Plain}
use Rattle.linked_queue.specs.queue_law.declared.view.View.{View as QueueView}
use Rattle.linked_queue.specs.Pops.{PopsAtHeadWith, item_in, popped_too}
use Rattle.linked_queue.specs.Queues.{deeds_in}
use Rattle.linked_queue.specs.Readings.{ReadsWithin}
use Rattle.watch_protocol.specs.declared.news.NewsLaw.{NewsLaw}
use Rattle.watch_protocol.specs.watch_law.declared.view.Address.{Address}
use Rattle.watch_protocol.specs.watch_law.declared.view.View.{View}
use Rattle.watch_protocol.specs.watch_law.Lessons.{ReadTells, read_next}
use Rattle.watch_protocol.specs.watch_law.News.{NewsView}
use Rattle.watch_protocol.specs.watch_law.Payloads.{IsDelivery, IsObserver, told}
use Rattle.weak_watch.specs.Sending.{HasObserver, address_in, pushing, queue_in}
use Rattle.weak_watch.specs.Subjects.{news_fits}
pub use Rattle.weak_watch.specs.declared.delivery.Delivery.{Delivery}
pub use Rattle.weak_watch.specs.declared.delivery.Received.{Received}
use Rattle.weak_watch.specs.declared.delivery.Received.TheVariants as received

-- the lesson that a pop reads its item with, over both parts of a view
abbrev pub lesson_next : OwnPart → OwnPart → NewsView → PlainAct → ℕ → NewsView
lesson_next own after v step found = (v.0, read_next own after v.1 step found)

abbrev pub LessonTells : Plain → Plain → ℕ → NewsView → NewsView → Type 0
LessonTells p q n v w = ReadTells p q n v.1 w.1

abbrev pub with_queue : NewsView → QueueView → NewsView
with_queue v w = (w, v.1)

-- the delivery of which item, and to whom, as the seat knows both
abbrev pub read_in : SlotId → SlotId → SeatState NewsView → Address
read_in item s seat =
    address_in (told (object_in seat.view s).payload) (told (object_in seat.view item).payload) item s
    seat

-- If the item is a delivery, it is noted as read that it is to s, and s is an observer.
abbrev pub NotesRead : SlotId → SlotId → SeatState NewsView → SeatState NewsView → Type 0
NotesRead item s old new =
    IsDelivery (object_in new.view item).payload
    → (new.view.client.1.read ≡ old.view.client.1.read ++ read_in item s new ∷ [])
    × IsObserver (object_in new.view s).payload

-- all of a view of observers but what was read
abbrev pub beside_reading : View → View
beside_reading v = record v { read = [] }

-- a view of observers that has read some more
pub record ReadsMore (v w : View) : Type 0 where
  pub more : (xs : List Address) × (w.read ≡ v.read ++ xs)
  pub beside : beside_reading w ≡ beside_reading v

-- Of what the seat knows of observers nothing has changed, but that it has read some more.
abbrev pub OnlyReads : SeatState NewsView → SeatState NewsView → Type 0
OnlyReads old new = ReadsMore old.view.client.1 new.view.client.1

-- Nothing was popped, nor pushed.
abbrev pub PopsNone : SeatState NewsView → SeatState NewsView → Type 0
PopsNone old new = deeds_in new.view.client.0 ≡ deeds_in old.view.client.0

-- what a call answers, as that of its last try
abbrev pub received_as : Option Delivery → Received
received_as None = received.Nothing
received_as (Some x) = received.Delivery x

module _ (d : DomainState NewsLaw) where
  -- all events of a pop of this item, of which field 0 was read, or of one that found nothing linked
  abbrev pub PopsItem : Option (SlotId × Option SlotId) → SeatState NewsView → SeatState NewsView
      → Type 0
  PopsItem found old new =
      PopsAtHeadWith news_fits (queue_in d) (Some 0) found (pushing old) (pushing new)

  -- It popped this item. Before that, with the lesson, it read in field 0 of it what is named.
  pub record Takes (item : SlotId) (content : Option SlotId) (old new : SeatState NewsView) : Type 0
    where
      pub pops : PopsItem (Some (item, content)) old new
      pub reads :
          ReadsWithin news_fits d with_queue lesson_next LessonTells 0 item content old new
      pub popped :
          deeds_in new.view.client.0
          ≡ popped_too (item_in (pushing new) item) (deeds_in old.view.client.0)

  abbrev pub TakesOne : Option (SlotId × Option SlotId) → SeatState NewsView → SeatState NewsView
      → Type 0
  TakesOne None old new = PopsItem None old new × PopsNone old new
  TakesOne (Some x) old new = Takes x.0 x.1 old new

  -- It popped an item that is no delivery, or in which it read no observer, and gave it up.
  pub record PassesOne (old new : SeatState NewsView) : Type 0 where
    pub item : SlotId
    pub content : Option SlotId
    pub popped : SeatState NewsView
    pub takes : Takes item content old popped
    pub why : (¬ (IsDelivery (object_in popped.view item).payload)) ⊎ (content ≡ None)
    pub then_none : PopsNone popped new

  -- It popped a delivery of this event, in which it had read this observer, as it notes: the delivery and the observer
  -- in the lives that they had then, the event and the observer's id.
  pub record TakesDelivery (delivery : Delivery) (old new : SeatState NewsView) : Type 0 where
    pub item : SlotId
    pub popped : SeatState NewsView
    pub takes : Takes item (Some delivery.observer.slot) old popped
    pub is : IsDelivery (object_in popped.view item).payload
    pub event : told (object_in popped.view item).payload ≡ delivery.event
    pub noted :
        new.view.client.1.read
        ≡ old.view.client.1.read
        ++ address_in delivery.id delivery.event item delivery.observer.slot popped ∷ []
    pub then_none : PopsNone popped new

  -- what one try came to
  abbrev pub Receives : Received → SeatState NewsView → SeatState NewsView → Type 0
  Receives received.Nothing old new = PopsItem None old new × PopsNone old new
  Receives received.Passed old new = PassesOne old new
  Receives (received.Delivery x) old new = TakesDelivery x old new

  -- It passed over so many items, one after the other. Tries between them popped nothing.
  abbrev pub PassesOver : ℕ → SeatState NewsView → SeatState NewsView → Type 0
  PassesOver zero old new = PopsNone old new
  PassesOver (suc n) old new =
      (passed : SeatState NewsView) × (begun : SeatState NewsView) × PassesOver n old begun
      × PassesOne begun passed × PopsNone passed new

  abbrev pub OnlyPasses : SeatState NewsView → SeatState NewsView → Type 0
  OnlyPasses old new = (n : ℕ) × PassesOver n old new

  -- It passed over some items, and then found that nothing was linked, or took a delivery.
  pub record ReceivesAtLast (answer : Option Delivery) (old new : SeatState NewsView) : Type 0 where
    pub passed : ℕ
    pub last : SeatState NewsView
    pub passes : PassesOver passed old last
    pub receives : Receives (received_as answer) last new

-- the seat owns what was received, which is an observer with this id
abbrev pub HasReceived : Received → SeatState NewsView → Type 0
HasReceived received.Nothing seat = Unit {0}
HasReceived received.Passed seat = Unit {0}
HasReceived (received.Delivery x) seat = HasObserver x.id x.observer.slot seat

-- what a call tells of an item that was popped with a content
abbrev pub Opens : SlotId → SlotId → Received → SeatState NewsView → Type 0
Opens item s received.Nothing seat = ⊥
Opens item s received.Passed seat = ¬ (IsDelivery (object_in seat.view item).payload)
Opens item s (received.Delivery x) seat =
    (x.observer.slot ≡ s) × IsDelivery (object_in seat.view item).payload
    × (told (object_in seat.view item).payload ≡ x.event)
    × (told (object_in seat.view s).payload ≡ x.id)

-- what is owned then, of what was owned with the item and its content; and of what was owned before both
abbrev pub left_by : Received → SlotId → SlotId → List SlotId → List SlotId
left_by received.Nothing item s xs = xs
left_by received.Passed item s xs = without s (without item xs)
left_by (received.Delivery x) item s xs = without item xs

abbrev pub with_received : Received → List SlotId → List SlotId
with_received received.Nothing xs = xs
with_received received.Passed xs = xs
with_received (received.Delivery x) xs = xs ++ x.observer.slot ∷ []

abbrev pub with_tried : {E : Type 0} → Result Received E → List SlotId → List SlotId
with_tried (Ok got) xs = with_received got xs
with_tried (Err error) xs = xs

abbrev pub with_delivery : {E : Type 0} → Result (Option Delivery) E → List SlotId → List SlotId
with_delivery (Ok answer) xs = with_received (received_as answer) xs
with_delivery (Err error) xs = xs
