-- What each call on slots does.
use Rattle.std.specs.Prelude.{ℕ, ◌≡◌, ◌≢◌, ◌+◌, ◌<◌, List, [], ◌∷◌, ◌++◌, length, slice_index}
use Rattle.protocol_pairs.specs.plain_state.Limits.{words_of_payload}
use Rattle.protocol_pairs.specs.plain_state.declared.act.PlainAct.{PlainAct}
use Rattle.protocol_pairs.specs.plain_state.declared.slot.SlotId.{SlotId}
use Rattle.protocol_pairs.specs.plain_state.State.{Plain, slot_at}
use Rattle.protocol_pairs.specs.plain_protocol.Owns.{HasSlot, OwnPart}
use Rattle.claim_law.specs.core_events.declared.act.Act.TheVariants as act
use Rattle.claim_law.specs.core_events.declared.outcome.Outcome.TheVariants as outcome
use Rattle.claim_law.specs.core_events.declared.view.CoreView.{CoreView}
use Rattle.claim_law.specs.core_events.declared.view.Move.{Move}
use Rattle.claim_law.specs.core_events.declared.view.Phase.TheVariants as phase
use Rattle.claim_law.specs.core_events.Shows.{show_seat, shows}
use Rattle.claim_law.specs.core_events.Views.{allowed_makes}
use Rattle.claim_law.specs.core_events.Words.{each_from}
use Rattle.retiring_stores.specs.domain_rule.Views.{object_in}
use Rattle.retiring_stores.specs.acquire_retire.Calls.{IsReady, IsSameView, same_view}
use Rattle.retiring_stores.specs.acquire_retire.Collecting.{move}
use Rattle.retiring_stores.specs.acquire_retire.Domains.{DomainState}
use Rattle.retiring_stores.specs.acquire_retire.Seats.{SeatState}
use Rattle.retiring_stores.specs.control_word.Moves.{Becomes, last_core}
use Rattle.slot_store.specs.Searching.{AreInTurn, Goes, IsNext, Try, taken_by}

-- what a seat has, but for its trail, while it fills s, which it has claimed, and once it has made
-- an object there
abbrev pub with_blank : SlotId → CoreView → CoreView
with_blank s v = record v { makes = v.makes + 1; phase = phase.Blank s }

abbrev pub with_made : SlotId → CoreView → CoreView
with_made s v =
    record v {
      owned = v.owned ++ s ∷ [];
      made = v.made ++ s ∷ [];
      adds = v.adds + 1;
      makes = v.makes + 1;
    }

-- the seat has used all makes of its quota and of what its own tickets grant
abbrev pub HasNoMake : CoreView → Type 0
HasNoMake v = v.makes ≡ allowed_makes v

-- the moves that fill a slot with a payload, word by word
abbrev pub filled_by : List ℕ → List Move
filled_by payload = each_from 0 words_of_payload (λ i. move (act.Fill i (slice_index payload i)) outcome.Plain)

-- the moves up to the start: the tries, the claim of s, its arming, and its words
abbrev pub begun_by : List Try → SlotId → List ℕ → List Move
begun_by tries s payload =
    taken_by tries
    ++ move (act.Claim s) outcome.Claimed ∷ move act.Arm outcome.Plain ∷ filled_by payload

module _ {P V : Type 0} (fits : List ℕ → Type 0) (d : DomainState P) where
  -- the seat has read word i of the payload of s, which the domain showed as n
  pub record SeesWord (s : SlotId) (i n : ℕ) (old new : SeatState V) : Type 0 where
    pub becomes :
        Becomes fits d same_view IsSameView (move (act.See s i) (outcome.Word n) ∷ [])
        old.view.core old new
    pub word : slice_index (slot_at (shows d.shape (last_core becomes)) s).payload i ≡ n

  -- It has filled s, which it had claimed and armed, with the payload. What it knows of the other
  -- slots is as it was.
  pub record Fills (payload : List ℕ) (s : SlotId) (old new : SeatState V) : Type 0 where
    pub becomes :
        Becomes fits d same_view IsSameView (filled_by payload) old.view.core old new
    pub client : new.view.client ≡ old.view.client
    pub others :
        (x : SlotId) → x.0 ≢ s.0 → HasSlot (show_seat old.view.core) x
        → object_in new.view x ≡ object_in old.view x
    pub filled : (object_in new.view s).payload ≡ payload

  -- It is to start s, which it has claimed after these tries, armed and filled with the payload.
  pub record Begins (payload : List ℕ) (s : SlotId) (old new : SeatState V) : Type 0 where
    pub tries : List Try
    pub in_turn : AreInTurn d.shape tries
    pub few : length tries < d.shape.slots
    pub next : IsNext d.shape s tries
    pub goes : Goes fits d (begun_by tries s payload) (with_blank s old.view.core) old new
    pub filled : (object_in new.view s).payload ≡ payload

  -- the deed is ready for the start, whichever slot it is
  abbrev pub IsReadyToMake : (OwnPart → V → PlainAct → Type 0) → List ℕ → SeatState V → Type 0
  IsReadyToMake ready payload old =
      (s : SlotId) (mid : SeatState V) → Begins payload s old mid
      → IsReady ready d.shape act.Start mid.view

  -- The seat has made an object in s of this payload, by a start with the deed. The object has one
  -- life more than the slot had when it was started.
  pub record Makes (next : OwnPart → OwnPart → V → PlainAct → ℕ → V)
      (allows : Plain → Plain → ℕ → V → V → Type 0) (payload : List ℕ) (s : SlotId)
      (old new : SeatState V) : Type 0 where
    pub mid : SeatState V
    pub begins : Begins payload s old mid
    pub starts :
        Becomes fits d next allows (move act.Start outcome.Plain ∷ [])
        (with_made s old.view.core) mid new
    pub core :
        new.view.core
        ≡ record (with_made s old.view.core) {
          trail =
              old.view.core.trail
              ++ (begun_by begins.tries s payload ++ move act.Start outcome.Plain ∷ []);
        }
    pub cleared : new.view.cleared ≡ old.view.cleared
    pub object :
        object_in new.view s
        ≡ record {
          life = (slot_at (shows d.shape (last_core starts)) s).life + 1;
          payload = payload;
        }
