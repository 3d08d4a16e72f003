-- What a seat does that sends a delivery to an observer, and what its view tells then.
use Rattle.std.specs.Prelude.{ℕ, ◌≡◌, ◌⊎◌, ◌<◌, List, [], ◌∷◌, ◌++◌, Some}
use Rattle.control_word.specs.acquire_retire.Domains.{DomainState}
use Rattle.control_word.specs.acquire_retire.Seats.{SeatState}
use Rattle.control_word.specs.domain_rule.Views.{object_in}
use Rattle.control_word.specs.plain_state.declared.act.EventPlace.TheVariants.{Field}
use Rattle.control_word.specs.plain_state.declared.slot.SlotId.{SlotId}
use Rattle.control_word.specs.plain_state.Lists.{times}
use Rattle.linked_queue.specs.UnlessRipe.{TellsNothing, next_unless}
use Rattle.part_calls.specs.slot_store.Calls.{Makes}
use Rattle.weak_part_calls.specs.retiring_stores.Exchanging.{Stores}
use Rattle.watch_protocol.specs.declared.law.WatchLaw.{WatchLaw}
use Rattle.watch_protocol.specs.watch_law.declared.view.View.{View}
use Rattle.watch_protocol.specs.watch_law.Making.{DeliveryTells, delivery_next}
use Rattle.watch_protocol.specs.watch_law.Payloads.{IsObserverOf}
use Rattle.watch_protocol.specs.watch_law.declared.view.Address.{Address}
use Rattle.watch_protocol.specs.watch_law.Views.{no_made}
use Rattle.watch_protocol.specs.watch_law.Writes.{address_next}
use Rattle.watch_protocol.specs.declared.news.NewsLaw.{NewsLaw}
use Rattle.watch_protocol.specs.watch_law.News.{IsOf, NewsView}
use Rattle.part_calls.specs.Parts.{as_part, seen_by}
use Rattle.part_calls.specs.slot_store.declared.making.MakeError.{MakeError}
use Rattle.control_word.specs.Calls.{DropsStrong}
use Rattle.linked_queue.specs.queue_law.declared.view.Item.{Item}
use Rattle.linked_queue.specs.queue_law.declared.view.View.{View as QueueView}
use Rattle.linked_queue.specs.queue_protocol.declared.law.QueueLaw.{QueueLaw}
use Rattle.linked_queue.specs.Pushes.{pushed_too}
use Rattle.linked_queue.specs.Waits.{IsWhyNeverPushed}
use Rattle.hand_queues.specs.Pushes.{PushesAtLastIn, deeds_of}
use Rattle.weak_watch.specs.Subjects.{news_fits, seen, watch_in, words}
use Rattle.weak_watch.specs.Subscribing.{IsWhyUnmade}

-- a view that has made a delivery in s, in the life in which the seat has it, and given it to nobody yet
abbrev pub made_in : {V : Type 0} → SlotId → SeatState V → View → View
made_in s seat v = record v { made = record { slot = s; life = (object_in seat.view s).life } }

-- the address of delivery d, with this event, to observer o with this id, each in the life in which the seat has it
abbrev pub address_in : {V : Type 0} → ℕ → ℕ → SlotId → SlotId → SeatState V → Address
address_in c event d o seat = record {
  slot = d;
  life = (object_in seat.view d).life;
  event = event;
  observer = o;
  observer_life = (object_in seat.view o).life;
  id = c;
}

-- a view that has given its delivery this observer
abbrev pub addressed_too : Address → View → View
addressed_too a v = record v { made = no_made; addressed = v.addressed ++ a ∷ [] }

-- the seat owns a delivery of this event, which it made last and which is to nobody yet
pub record HasDelivery {V : Type 0} (event : ℕ) (s : SlotId) (seat : SeatState V) (v : View)
    : Type 0 where
  pub owned : 0 < times s seat.view.core.owned
  pub payload : (object_in seat.view s).payload ≡ words 2 event
  pub begun : 0 < (object_in seat.view s).life
  pub made : v.made ≡ record { slot = s; life = (object_in seat.view s).life }

-- the seat owns an observer with this id
pub record HasObserver {V : Type 0} (c : ℕ) (s : SlotId) (seat : SeatState V) : Type 0 where
  pub owned : 0 < times s seat.view.core.owned
  pub observer : IsObserverOf c (object_in seat.view s).payload

module _ (fits : List ℕ → Type 0) (d : DomainState WatchLaw) where
  -- It made a delivery of this event in s.
  abbrev pub MakesDelivery : ℕ → SlotId → SeatState View → SeatState View → Type 0
  MakesDelivery event s = Makes fits d delivery_next DeliveryTells (words 2 event) s

  -- It put observer o into field 0 of delivery s.
  abbrev pub Addresses : SlotId → SlotId → SeatState View → SeatState View → Type 0
  Addresses s o = Stores fits d (next_unless (address_next s o)) TellsNothing (Field s 0) (Some o)

-- THE PART of the queue: of a view, of the law, of a domain and of a seat
abbrev pub queue_view : NewsView → QueueView
queue_view v = v.0

abbrev pub queue_part : NewsLaw → QueueLaw
queue_part it = it.pair.left

abbrev pub queue_in : DomainState NewsLaw → DomainState QueueLaw
queue_in d = as_part queue_part d

abbrev pub pushing : SeatState NewsView → SeatState QueueView
pushing seat = seen_by queue_view seat

-- One address more is noted, of a delivery of this event to observer o, in the life in which the seat had it, with this
-- id. And exactly one item more is pushed, which is that delivery.
pub record IsSent (c event : ℕ) (o : SlotId) (old new : SeatState NewsView) : Type 0 where
  pub address : Address
  pub item : Item
  pub id : address.id ≡ c
  pub event_is : address.event ≡ event
  pub observer : address.observer ≡ o
  pub life : address.observer_life ≡ (object_in old.view o).life
  pub named : IsOf address item
  pub addressed : new.view.client.1 ≡ addressed_too address old.view.client.1
  pub pushed : deeds_of new.view.client.0 ≡ pushed_too item (deeds_of old.view.client.0)

-- all of a view of observers but what was made and addressed last
abbrev pub beside_sending : View → View
beside_sending v = record v { made = no_made; addressed = [] }

-- Nothing was pushed. A delivery may have been made, and given its observer, and given up then.
pub record IsUnsent (old new : SeatState NewsView) : Type 0 where
  pub pushed : deeds_of new.view.client.0 ≡ deeds_of old.view.client.0
  pub more : (xs : List Address) × (new.view.client.1.addressed ≡ old.view.client.1.addressed ++ xs)
  pub beside : beside_sending new.view.client.1 ≡ beside_sending old.view.client.1

-- It couldn't push the delivery, with a push's cause, and gave it up.
pub record IsWhyUnpushed (d : DomainState NewsLaw) (s : SlotId) (why : MakeError)
    (old new : SeatState NewsView) : Type 0 where
  pub late : SeatState NewsView
  pub cause : IsWhyNeverPushed news_fits (queue_in d) why (pushing old) (pushing late)
  pub drops : DropsStrong news_fits (watch_in d) s (seen late) (seen new)

module _ (d : DomainState NewsLaw) (c event : ℕ) (o : SlotId) (old new : SeatState NewsView) where
  -- It made a delivery of this event, put observer o into it, and pushed it.
  pub record Sends : Type 0 where
    pub delivery : SlotId
    pub made : SeatState NewsView
    pub addressed : SeatState NewsView
    pub makes : MakesDelivery news_fits (watch_in d) event delivery (seen old) (seen made)
    pub addresses : Addresses news_fits (watch_in d) delivery o (seen made) (seen addressed)
    pub pushes :
        PushesAtLastIn news_fits (queue_in d) d.protocol.pair.left.form delivery
        (pushing addressed) (pushing new)
    pub view : IsSent c event o old new

  -- No delivery was made, and it gave the observer up.
  pub record LacksDelivery (why : MakeError) : Type 0 where
    pub mid : SeatState NewsView
    pub unmade : IsWhyUnmade news_fits (watch_in d) why (seen old) (seen mid)
    pub drops : DropsStrong news_fits (watch_in d) o (seen mid) (seen new)

  -- It made one, put the observer into it, couldn't push it, and gave it up.
  pub record LacksNode (why : MakeError) : Type 0 where
    pub delivery : SlotId
    pub made : SeatState NewsView
    pub addressed : SeatState NewsView
    pub makes : MakesDelivery news_fits (watch_in d) event delivery (seen old) (seen made)
    pub addresses : Addresses news_fits (watch_in d) delivery o (seen made) (seen addressed)
    pub unpushed : IsWhyUnpushed d delivery why addressed new

  -- why nothing was sent
  abbrev pub IsWhyUnsent : MakeError → Type 0
  IsWhyUnsent why = LacksDelivery why ⊎ LacksNode why
