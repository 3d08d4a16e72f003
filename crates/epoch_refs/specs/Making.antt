-- How an object is made: a slot is claimed, filled word by word, and started.
use Rattle.std.specs.Prelude.{ℕ, ◌≡◌, ◌≢◌, ◌+◌, ◌<◌, ◌≤◌, List, [], ◌∷◌, ◌++◌, length, slice_index}
use Rattle.epoch_domain.specs.plain_protocol.plain_state.Limits.{words_of_payload}
use Rattle.epoch_domain.specs.plain_protocol.plain_state.declared.act.PlainAct.{PlainAct}
use Rattle.epoch_domain.specs.plain_protocol.plain_state.declared.slot.SlotId.{SlotId}
use Rattle.epoch_domain.specs.plain_protocol.plain_state.State.{Plain, slot_at}
use Rattle.epoch_domain.specs.plain_protocol.Owns.{HasSlot, OwnPart}
use Rattle.epoch_domain.specs.epoch_core.core_events.Words.{each_from}
use Rattle.epoch_domain.specs.epoch_core.declared.act.EpochAct.TheVariants as act
use Rattle.epoch_domain.specs.epoch_core.declared.outcome.EpochOutcome.TheVariants as outcome
use Rattle.epoch_domain.specs.epoch_core.declared.view.EpochMove.{EpochMove}
use Rattle.epoch_domain.specs.epoch_core.declared.view.EpochView.{EpochView}
use Rattle.epoch_domain.specs.epoch_core.Shows.{show_seat, shows}
use Rattle.epoch_domain.specs.epoch_rule.Views.{object_in}
use Rattle.epoch_claims.specs.Claims.{makes_given}
use Rattle.epoch_domain.specs.Calls.{IsReady, Steps}
use Rattle.epoch_domain.specs.Domains.{DomainState}
use Rattle.epoch_domain.specs.Seats.{SeatState}
use Rattle.epoch_refs.specs.Searching.{Claims, Goes, Try, in_order, taken_by, with_blank}
use Rattle.epoch_refs.specs.Walks.{Walks, move}

-- the seat has used all makes of its quota
abbrev pub HasNoMake : EpochView → Type 0
HasNoMake v = v.makes ≡ v.quota.makes

-- there are no more slots than the makes that this seat has used and those that all other seats were given
abbrev pub SlotsFitMakes : {P : Type 0} → DomainState P → EpochView → Type 0
SlotsFitMakes d v = d.shape.slots + v.quota.makes ≤ makes_given d.quotas + v.makes

-- what a seat has, but for its trail, once it has made an object in s
abbrev pub with_made : SlotId → EpochView → EpochView
with_made s v =
    record v {
      owned = v.owned ++ s ∷ [];
      made = v.made ++ s ∷ [];
      adds = v.adds + 1;
      makes = v.makes + 1;
    }

-- the events that fill a slot with a payload, word by word
abbrev pub filled_by : List ℕ → List EpochMove
filled_by payload =
    each_from 0 words_of_payload
    (λ i. move (act.Fill i (slice_index payload i)) outcome.Plain)

-- the events up to the start: the tries, the claim of s, and its words
abbrev pub begun_by : List Try → SlotId → List ℕ → List EpochMove
begun_by tries s payload =
    taken_by tries ++ move (act.Claim s) outcome.Claimed ∷ filled_by payload

module _ {P V : Type 0} (fits : List ℕ → Type 0) (d : DomainState P) where
  -- The seat has filled s, which it had claimed, with the payload. What it knows of its other slots is as it was.
  pub record Fills (payload : List ℕ) (s : SlotId) (old new : SeatState V) : Type 0 where
    pub walks : Walks fits d (filled_by payload) old new
    pub core :
        new.view.core
        ≡ record old.view.core { trail = old.view.core.trail ++ filled_by payload }
    pub client : new.view.client ≡ old.view.client
    pub others :
        (x : SlotId) → x.0 ≢ s.0 → HasSlot (show_seat old.view.core) x
        → object_in new.view x ≡ object_in old.view x
    pub filled : (object_in new.view s).payload ≡ payload

  -- The seat is to start s, which it has claimed after these tries, and filled with the payload.
  pub record Begins (payload : List ℕ) (s : SlotId) (old new : SeatState V) : Type 0 where
    pub first : ℕ
    pub inside : first < d.shape.slots
    pub claimed : SeatState V
    pub claims : Claims fits d (in_order d.shape first) old claimed s
    pub few : length claims.tries < d.shape.slots
    pub goes : Goes fits d (begun_by claims.tries s payload) (with_blank s old.view.core) old new
    pub filled : (object_in new.view s).payload ≡ payload

  -- the deed is ready for the start, whichever slot it is
  abbrev pub IsReadyToMake : (OwnPart → V → PlainAct → Type 0) → List ℕ → SeatState V → Type 0
  IsReadyToMake ready payload old =
      (s : SlotId) (mid : SeatState V) → Begins payload s old mid
      → IsReady ready act.Start mid.view

  -- The seat has made an object in s of this payload, by a start with the deed. The object has one life more than the
  -- slot had when it was started.
  pub record Makes (next : OwnPart → OwnPart → V → PlainAct → ℕ → V)
      (allows : Plain → Plain → ℕ → V → V → Type 0) (payload : List ℕ) (s : SlotId)
      (old new : SeatState V) : Type 0 where
    pub mid : SeatState V
    pub begins : Begins payload s old mid
    pub starts : Steps fits d next allows act.Start mid new outcome.Plain
    pub core :
        new.view.core
        ≡ record (with_made s old.view.core) {
          trail =
              old.view.core.trail
              ++ (begun_by begins.claims.tries s payload
              ++ move act.Start outcome.Plain ∷ []);
        }
    pub object :
        object_in new.view s
        ≡ record {
          life = (slot_at (shows d.shape starts.told.happened.before) s).life + 1;
          payload = payload;
        }
