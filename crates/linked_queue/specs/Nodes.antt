-- A node of the seat's own, and how a queue is laid with one.
use Rattle.std.specs.Prelude.{ℕ, ◌≡◌, ◌⊎◌, ◌+◌, ◌<◌, ◌≤◌, true, [], Some, List}
use Rattle.queue_protocol.specs.plain_state.declared.act.EventPlace.TheVariants.{Cell}
use Rattle.queue_protocol.specs.plain_state.declared.slot.SlotId.{SlotId}
use Rattle.queue_protocol.specs.plain_state.Lists.{times}
use Rattle.queue_protocol.specs.plain_state.State.{no_payload}
use Rattle.slot_store.specs.core_events.declared.view.CoreView.{CoreView}
use Rattle.slot_store.specs.domain_rule.Views.{object_in}
use Rattle.slot_store.specs.acquire_retire.Calls.{IsSameView, same_view}
use Rattle.slot_store.specs.acquire_retire.Domains.{DomainState}
use Rattle.slot_store.specs.acquire_retire.Seats.{SeatState}
use Rattle.slot_store.specs.control_word.Calls.{DropsStrong, GainsStrong}
use Rattle.slot_store.specs.control_word.Resting.{IsSpent}
use Rattle.slot_store.specs.retiring_stores.Exchanging.{Stores}
use Rattle.slot_store.specs.declared.making.MakeError.{MakeError}
use Rattle.slot_store.specs.declared.making.MakeError.TheVariants as refused
use Rattle.slot_store.specs.Calls.{HasNoMake, Makes}
use Rattle.slot_store.specs.Searching.{Misses}
use Rattle.queue_protocol.specs.queue_law.Lessons.{TellsNothing}
use Rattle.queue_protocol.specs.queue_law.Nodes.{make_next}
use Rattle.queue_protocol.specs.queue_law.Opening.{lay_head_next, lay_tail_next}
use Rattle.queue_protocol.specs.queue_law.declared.view.View.{View}
use Rattle.queue_protocol.specs.queue_law.Views.{no_load, sees_node}
use Rattle.queue_protocol.specs.declared.law.QueueLaw.{QueueLaw}

-- at most so many adds are left
abbrev pub HasFewAdds : ℕ → CoreView → Type 0
HasFewAdds n v = v.quota.adds ≤ v.adds + n

-- the seat owns the node that its view says is its own, and has put nothing into it yet
pub record HasNode (s : SlotId) (seat : SeatState View) : Type 0 where
  pub owns : 0 < times s seat.view.core.owned
  pub node : seat.view.client.load.node ≡ s.0 + 1
  pub life : (object_in seat.view s).life ≡ seat.view.client.load.life
  pub is_node : (object_in seat.view s).payload ≡ no_payload
  pub no_back : seat.view.client.load.back ≡ 0

-- the view once the seat's own node stands in the tail cell
abbrev pub half_laid_in : View → View
half_laid_in v = record v {
  load = no_load;
  eyes = sees_node v.load.node v.load.life;
  stand = record { laid = 1; left = [] };
}

-- the seat is seat 0, and the node that stands in the tail cell is s
pub record IsHalfLaid (s : SlotId) (seat : SeatState View) : Type 0 where
  pub root : seat.view.client.number ≡ 0
  pub here : seat.view.client.here ≡ true
  pub laying : seat.view.client.stand.laid ≡ 1
  pub node : seat.view.client.eyes.node ≡ s.0 + 1
  pub life : (object_in seat.view s).life ≡ seat.view.client.eyes.life

-- the view once the queue is laid: its seat is attached
abbrev pub laid_in : View → View
laid_in v = record v { stand = record { laid = 2; left = [] }; attached = true }

module _ (fits : List ℕ → Type 0) (d : DomainState QueueLaw) where
  -- The seat made the dummy, counted a second reference to it, and put one into the tail cell and the other into the
  -- head cell.
  pub record Lays (old new : SeatState View) : Type 0 where
    pub dummy : SlotId
    pub made : SeatState View
    pub copied : SeatState View
    pub half : SeatState View
    pub makes : Makes fits d make_next TellsNothing no_payload dummy old made
    pub copies : GainsStrong fits d same_view IsSameView dummy made copied
    pub tail :
        Stores fits d lay_tail_next TellsNothing (Cell d.protocol.tail) (Some dummy)
        copied half
    pub head :
        Stores fits d lay_head_next TellsNothing (Cell d.protocol.head) (Some dummy) half
        new

  -- It made a node, found no add left for a second reference, and gave the node up.
  pub record GivesUp (old new : SeatState View) : Type 0 where
    pub dummy : SlotId
    pub made : SeatState View
    pub makes : Makes fits d make_next TellsNothing no_payload dummy old made
    pub drops : DropsStrong fits d dummy made new

  -- why no node was made
  abbrev pub IsWhyUnmade : MakeError → SeatState View → SeatState View → Type 0
  IsWhyUnmade refused.MakesSpent old new = HasNoMake old.view.core × (new ≡ old)
  IsWhyUnmade refused.AddsSpent old new = IsSpent old.view.core × (new ≡ old)
  IsWhyUnmade refused.Full old new = Misses fits d old new

  -- why nothing was laid: no node was made, or at most one add was left, which made the node
  abbrev pub IsWhyUnlaid : MakeError → SeatState View → SeatState View → Type 0
  IsWhyUnlaid error old new =
      IsWhyUnmade error old new
      ⊎ ((error ≡ refused.AddsSpent) × HasFewAdds 1 old.view.core × GivesUp old new)
