-- The fates of the ids in a publication, each from the state of the seat before it to the one after.
use Rattle.std.specs.Prelude.{ℕ, zero, suc, ◌≡◌, ◌⊎◌, List, None, slice_index_or}
use Rattle.control_word.specs.acquire_retire.Domains.{DomainState}
use Rattle.control_word.specs.acquire_retire.Seats.{SeatState}
use Rattle.control_word.specs.plain_state.declared.slot.SlotId.{SlotId}
use Rattle.control_word.specs.Resting.{IsSpent}
use Rattle.linked_queue.specs.queue_protocol.declared.law.QueueLaw.{QueueLaw}
use Rattle.part_calls.specs.slot_store.declared.making.MakeError.{MakeError}
use Rattle.part_calls.specs.slot_store.declared.making.MakeError.TheVariants as refused
use Rattle.watch_protocol.specs.declared.news.NewsLaw.{NewsLaw}
use Rattle.watch_protocol.specs.watch_law.News.{NewsView}
use Rattle.weak_watch.specs.Finding.{FindsAlive, FindsAtLast, FindsDead}
use Rattle.weak_watch.specs.declared.subject.Subject.{Subject}
use Rattle.weak_watch.specs.Subjects.{IsOver, news_fits, seen, watch_in}
use Rattle.weak_watch.specs.Queues.{CanSend}
use Rattle.weak_watch.specs.Sending.{IsUnsent, IsWhyUnsent, Sends}
pub use Rattle.weak_watch.specs.declared.fates.Fate.{Fate}
use Rattle.weak_watch.specs.declared.fates.Fate.TheVariants as fate

-- the seat may send, and the domain has this subject
pub record CanPublish (is_on : DomainState QueueLaw → Type 0) (d : DomainState NewsLaw)
    (subject : Subject) (seat : SeatState NewsView) : Type 0 where
  pub send : CanSend is_on d seat
  pub over : IsOver d subject

module _ (d : DomainState NewsLaw) (event : ℕ) where
  -- It found an observer of id c in the cell and alive, without a change of its view, and sent it the event.
  pub record IsSentTo (c : ℕ) (old new : SeatState NewsView) : Type 0 where
    pub observer : SlotId
    pub found : SeatState NewsView
    pub alive : FindsAlive news_fits (watch_in d) c observer (seen old) (seen found)
    pub client : found.view.client ≡ old.view.client
    pub sends : Sends d c event observer found new

  -- Absent: the cell was null. Ended: the cell referred to a slot, and this call's own add on that slot found no
  -- strong reference to it. Of neither anything was addressed or pushed. Sent: the cell referred to a slot, this call's
  -- own add gained a reference to it, and one delivery to it was pushed.
  abbrev pub HasFate : ℕ → Fate → SeatState NewsView → SeatState NewsView → Type 0
  HasFate c fate.Absent old new =
      FindsAtLast news_fits (watch_in d) c None (seen old) (seen new)
      × (new.view.client ≡ old.view.client)
  HasFate c fate.Ended old new =
      ((s : SlotId) × FindsDead news_fits (watch_in d) c s (seen old) (seen new))
      × (new.view.client ≡ old.view.client)
  HasFate c fate.Sent old new = IsSentTo c old new

  -- It found one alive, and couldn't send to it.
  pub record IsNotSentTo (c : ℕ) (why : MakeError) (old new : SeatState NewsView) : Type 0 where
    pub observer : SlotId
    pub found : SeatState NewsView
    pub alive : FindsAlive news_fits (watch_in d) c observer (seen old) (seen found)
    pub client : found.view.client ≡ old.view.client
    pub unsent : IsWhyUnsent d c event observer found new why

  -- why an id has no fate: no add was left to find out whether its observer lives, or it couldn't be sent to
  abbrev pub IsWhyNoFate : ℕ → MakeError → SeatState NewsView → SeatState NewsView → Type 0
  IsWhyNoFate c why old new =
      ((why ≡ refused.AddsSpent) × IsSpent new.view.core × (new.view.client ≡ old.view.client))
      ⊎ IsNotSentTo c why old new

  -- the ids below n have these fates, one after the other
  abbrev pub Publishes : ℕ → List Fate → SeatState NewsView → SeatState NewsView → Type 0
  Publishes zero fates old new = new ≡ old
  Publishes (suc n) fates old new =
      (mid : SeatState NewsView) × Publishes n fates old mid
      × HasFate n (slice_index_or fates n fate.Absent) mid new

  -- The ids below `at` have these fates; that one has none, for this cause, and nothing was pushed for it.
  pub record StopsAt (at : ℕ) (why : MakeError) (fates : List Fate) (old new : SeatState NewsView)
      : Type 0 where
    pub mid : SeatState NewsView
    pub published : Publishes at fates old mid
    pub cause : IsWhyNoFate at why mid new
    pub unsent : IsUnsent mid new
