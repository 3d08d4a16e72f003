-- What a seat does with a slot that it is to destroy.
use Rattle.std.specs.Prelude.{ℕ, ◌≡◌, ◌⊎◌, ◌<◌, ◌+◌, List, [], ◌∷◌, ◌++◌, slice_index, Bool, Option, None, Some, if◌then◌else◌}
use Rattle.std.specs.Bool.{MatchBool}
use Rattle.protocol_pairs.specs.plain_state.Limits.{words_of_payload}
use Rattle.protocol_pairs.specs.plain_state.declared.act.EventPlace.{EventPlace}
use Rattle.protocol_pairs.specs.plain_state.declared.act.EventPlace.TheVariants.{Field, WeakField}
use Rattle.protocol_pairs.specs.plain_state.declared.slot.Kind.TheVariants.{Disposal}
use Rattle.protocol_pairs.specs.plain_state.declared.slot.SlotId.{SlotId}
use Rattle.protocol_pairs.specs.plain_state.Lists.{times}
use Rattle.protocol_pairs.specs.plain_protocol.Owns.{HasSlot}
use Rattle.claim_law.specs.announce_slots.Seen.{announced_in}
use Rattle.claim_law.specs.core_events.declared.act.Act.TheVariants as act
use Rattle.claim_law.specs.core_events.declared.outcome.Outcome.TheVariants as outcome
use Rattle.claim_law.specs.core_events.declared.view.Move.{Move}
use Rattle.claim_law.specs.core_events.Shows.{show_seat}
use Rattle.claim_law.specs.core_events.Steps.{HasRoom}
use Rattle.claim_law.specs.core_events.Words.{each_from}
use Rattle.claim_law.specs.core_promises.Destroyed.{destroyed}
use Rattle.retiring_stores.specs.domain_rule.Views.{object_in}
use Rattle.retiring_stores.specs.acquire_retire.Calls.{IsSameView, Steps, same_view}
use Rattle.retiring_stores.specs.acquire_retire.Collecting.{move, rest_of}
use Rattle.retiring_stores.specs.acquire_retire.Domains.{DomainState}
use Rattle.retiring_stores.specs.acquire_retire.Seats.{SeatState}
use Rattle.retiring_stores.specs.control_word.Moves.{KnowsStill}
use Rattle.retiring_stores.specs.control_word.Resting.{IsAtRest}
use Rattle.retiring_stores.specs.Exchanging.{Swaps}
use Rattle.retiring_stores.specs.Scanning.{Collected}
use Rattle.slot_store.specs.Searching.{Goes}

-- the moves that read all words of the payload of s
abbrev pub seen_by : SlotId → List ℕ → List Move
seen_by s payload =
    each_from 0 words_of_payload (λ i. move (act.See s i) (outcome.Word (slice_index payload i)))

-- of the objects of the slots that the seat has before and after, it knows what it knew
abbrev pub KnowsBoth : {V : Type 0} → SeatState V → SeatState V → Type 0
KnowsBoth old new =
    (s : SlotId) → HasSlot (show_seat old.view.core) s → HasSlot (show_seat new.view.core) s
    → object_in new.view s ≡ object_in old.view s

-- the seat, which is at rest again, has what it had beside its batch, and of the dying and ripe slots,
-- and of what it knew of all of them, has lost none
pub record Passes {P V : Type 0} (d : DomainState P) (old new : SeatState V) : Type 0 where
  pub same : rest_of new.view.core ≡ rest_of old.view.core
  pub dying : (s : SlotId) → 0 < times s old.view.core.dying → 0 < times s new.view.core.dying
  pub ripe : (s : SlotId) → 0 < times s old.view.core.ripe → 0 < times s new.view.core.ripe
  pub has :
      (s : SlotId) → HasSlot (show_seat old.view.core) s → HasSlot (show_seat new.view.core) s
  pub knows : KnowsStill old.view.core old new
  pub client : new.view.client ≡ old.view.client
  pub room : HasRoom new.view.core
  pub rest : IsAtRest d new

module _ {P V : Type 0} (fits : List ℕ → Type 0) (d : DomainState P) where
  -- the seat has read the payload of s, which is what it knew, and fits
  pub record SeesAll (s : SlotId) (payload : List ℕ) (old new : SeatState V) : Type 0 where
    pub goes : Goes fits d (seen_by s payload) old.view.core old new
    pub known : payload ≡ (object_in old.view s).payload
    pub fit : fits payload

  -- it has left a field of a ripe slot null, and scanned where that was due
  pub record Clears (p : EventPlace) (old new : SeatState V) : Type 0 where
    pub held : Option SlotId
    pub swaps : Swaps fits d same_view IsSameView p None held old new
    pub cleared : new.view.cleared ≡ p ∷ old.view.cleared

  -- It has destroyed s, and where that was the last reference it has given the slot back. The life that it knew of is
  -- destroyed by this step first: before it, the slot was destroyed once for each earlier life.
  pub record Destroys (s : SlotId) (old new : SeatState V) : Type 0 where
    pub mid : SeatState V
    pub last : Bool
    pub destroys :
        Steps fits d same_view IsSameView (act.Destroy s) old mid
        (if last then outcome.Last else outcome.Left)
    pub frees :
        MatchBool last (Steps fits d same_view IsSameView act.Free mid new outcome.Plain)
        (new ≡ mid)
    pub first : destroyed s destroys.told.happened.events + 1 ≡ (object_in old.view s).life

  -- The seat has collected, and nothing is ripe: each slot that was dying was announced for disposal
  -- by one of the words that it read.
  pub record Waits (old new : SeatState V) : Type 0 where
    pub collected : Collected fits d old new
    pub none : new.view.core.ripe ≡ []
    pub announced :
        (s : SlotId) → 0 < times s old.view.core.dying
        → 0 < announced_in (collected.collects.seen ++ collected.collects.last ∷ []) Disposal s

  -- it has looked for a ripe slot, and collected first where none was ripe
  abbrev pub FindsRipe : Option SlotId → SeatState V → SeatState V → Type 0
  FindsRipe None old new = (old.view.core.ripe ≡ []) × Waits old new
  FindsRipe (Some s) old new =
      (((0 < times s old.view.core.ripe) × (new ≡ old))
      ⊎ ((old.view.core.ripe ≡ []) × Collected fits d old new))
      × (0 < times s new.view.core.ripe)

  -- The seat has destroyed a ripe slot: it left its three fields null, read its payload, of which
  -- `answer` is the weight, and gave up the slot's own reference. What it has beside its batch and
  -- its dying and ripe slots is as it was.
  pub record Reaps (weight : List ℕ → ℕ) (answer : ℕ) (old new : SeatState V) : Type 0 where
    pub slot : SlotId
    pub payload : List ℕ
    pub ripe : SeatState V
    pub first : SeatState V
    pub second : SeatState V
    pub null : SeatState V
    pub read : SeatState V
    pub finds : FindsRipe (Some slot) old ripe
    pub clears_first : Clears (Field slot 0) ripe first
    pub clears_second : Clears (Field slot 1) first second
    pub clears_weak : Clears (WeakField slot) second null
    pub sees : SeesAll slot payload null read
    pub destroys : Destroys slot read new
    pub weighs : answer ≡ weight payload
    pub same : rest_of new.view.core ≡ rest_of old.view.core

  -- it has reaped a slot, or nothing was dying, or nothing was ripe after a collect
  abbrev pub Answers : (List ℕ → ℕ) → Option ℕ → SeatState V → SeatState V → Type 0
  Answers weight None old new =
      ((old.view.core.dying ≡ []) × (new ≡ old)) ⊎ FindsRipe None old new
  Answers weight (Some answer) old new = Reaps weight answer old new
