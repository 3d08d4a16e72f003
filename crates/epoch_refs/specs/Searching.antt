-- How a call looks for a free slot: it claims one after another, until one was free.
use Rattle.std.specs.Prelude.{ℕ, ◌≡◌, ◌≢◌, ◌+◌, ◌-◌, ◌<◌, All, List, [], ◌∷◌, ◌++◌, length, map, Option, Some, None}
use Rattle.epoch_domain.specs.plain_protocol.plain_state.declared.slot.SlotId.{SlotId}
use Rattle.epoch_domain.specs.plain_protocol.plain_state.Lists.{times}
use Rattle.epoch_domain.specs.epoch_core.core_events.Words.{each_from}
use Rattle.epoch_domain.specs.epoch_core.declared.act.EpochAct.TheVariants as act
use Rattle.epoch_domain.specs.epoch_core.declared.outcome.EpochOutcome.TheVariants as outcome
use Rattle.epoch_domain.specs.epoch_core.declared.shape.EpochShape.{EpochShape}
use Rattle.epoch_domain.specs.epoch_core.declared.view.EpochMove.{EpochMove}
use Rattle.epoch_domain.specs.epoch_core.declared.view.EpochPhase.TheVariants as phase
use Rattle.epoch_domain.specs.epoch_core.declared.view.EpochView.{EpochView}
use Rattle.epoch_domain.specs.epoch_core.Words.{free_word}
use Rattle.epoch_domain.specs.Domains.{DomainState}
use Rattle.epoch_domain.specs.Leavings.{KnowsSame}
use Rattle.epoch_domain.specs.Seats.{SeatState}
use Rattle.epoch_refs.specs.Walks.{Walks, move}

-- a slot that was claimed and taken already, and the count word that the claim found
pub record Try : Type 0 where
  pub slot : SlotId
  pub word : ℕ

-- All lists of tries have the first one first.
abbrev pub tried : List Try → List SlotId
tried ts = map (λ t. t.slot) ts

-- the events of these tries
abbrev pub taken_by : List Try → List EpochMove
taken_by ts = map (λ t. move (act.Claim t.slot) (outcome.Taken t.word)) ts

-- n slots from this number on
abbrev pub slots_from : ℕ → ℕ → List SlotId
slots_from i n = each_from i n (λ k. record { 0 = k })

-- all slots, in the order of a search that begins at this one: upwards, and after the last one from slot 0 on
abbrev pub in_order : EpochShape → ℕ → List SlotId
in_order z first = slots_from first (z.slots - first) ++ slots_from 0 first

-- the seat has claimed s and is to fill it, but for its trail
abbrev pub with_blank : SlotId → EpochView → EpochView
with_blank s v = record v { makes = v.makes + 1; phase = phase.Blank s }

module _ {P V : Type 0} (fits : List ℕ → Type 0) (d : DomainState P) where
  -- By these events without a deed the seat came to have v, but for its trail. The client's view is as it was, and so
  -- is what the seat knows of the objects of the slots that it had.
  pub record Goes (moves : List EpochMove) (v : EpochView) (old new : SeatState V) : Type 0 where
    pub walks : Walks fits d moves old new
    pub core : new.view.core ≡ record v { trail = old.view.core.trail ++ moves }
    pub client : new.view.client ≡ old.view.client
    pub knows : KnowsSame old.view new.view

  module _ (order : List SlotId) (old new : SeatState V) where
    -- the seat has claimed these slots, in this order, and found each of them taken
    pub record Misses : Type 0 where
      pub tries : List Try
      pub in_turn : tried tries ≡ order
      pub words : All (λ t. t.word ≢ free_word) tries
      pub goes : Goes (taken_by tries) old.view.core old new

    -- the seat has claimed slots in this order: each was found taken, but for s, which was the last one
    pub record Claims (s : SlotId) : Type 0 where
      pub tries : List Try
      pub untried : List SlotId
      pub in_turn : tried tries ++ s ∷ untried ≡ order
      pub words : All (λ t. t.word ≢ free_word) tries
      pub there : s.0 < d.shape.slots
      pub goes :
          Goes (taken_by tries ++ move (act.Claim s) outcome.Claimed ∷ [])
          (with_blank s old.view.core) old new

    -- it has claimed a slot, or missed all of them
    abbrev pub Searches : Option SlotId → Type 0
    Searches None = Misses
    Searches (Some s) = Claims s

  -- from some slot on, it has claimed one, or missed all of the domain
  abbrev pub SearchesAll : SeatState V → SeatState V → Option SlotId → Type 0
  SearchesAll old new o =
      (first : ℕ) × (first < d.shape.slots) × Searches (in_order d.shape first) old new o

  -- the seat has claimed all slots of the domain, each once, and found each of them taken
  pub record IsFull (old new : SeatState V) : Type 0 where
    pub first : ℕ
    pub inside : first < d.shape.slots
    pub misses : Misses (in_order d.shape first) old new
    pub each :
        (s : SlotId) → s.0 < d.shape.slots → times s (tried misses.tries) ≡ 1
    pub few : length misses.tries ≡ d.shape.slots
