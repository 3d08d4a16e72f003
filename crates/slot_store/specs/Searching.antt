-- How a call looks for a free slot: which slots it claims, and what the words of bits that it found
-- show.
use Rattle.std.specs.Prelude.{ℕ, ◌≡◌, ◌⊎◌, ◌+◌, ◌-◌, ◌/◌, ◌^◌, ◌<◌, ◌≤◌, ◌==◌, List, [], ◌∷◌, ◌++◌, length, map, Option, Some, None, if◌then◌else◌}
use Rattle.protocol_pairs.specs.plain_state.declared.slot.SlotId.{SlotId}
use Rattle.protocol_pairs.specs.plain_state.Lists.{times}
use Rattle.claim_law.specs.core_events.declared.act.Act.TheVariants as act
use Rattle.claim_law.specs.core_events.declared.outcome.Outcome.TheVariants as outcome
use Rattle.claim_law.specs.core_events.declared.shape.Shape.{Shape}
use Rattle.claim_law.specs.core_events.declared.view.CoreView.{CoreView}
use Rattle.claim_law.specs.core_events.declared.view.Move.{Move}
use Rattle.claim_law.specs.core_events.declared.view.Phase.TheVariants as phase
use Rattle.claim_law.specs.core_events.Words.{bit_in}
use Rattle.retiring_stores.specs.acquire_retire.Calls.{IsSameView, same_view}
use Rattle.retiring_stores.specs.acquire_retire.Collecting.{move}
use Rattle.retiring_stores.specs.acquire_retire.Domains.{DomainState}
use Rattle.retiring_stores.specs.acquire_retire.Seats.{SeatState}
use Rattle.retiring_stores.specs.control_word.Moves.{Becomes, KnowsStill}

-- a slot that was claimed and taken already, and the word of bits that the claim found
pub record Try : Type 0 where
  pub slot : SlotId
  pub word : ℕ

-- All lists of tries have the newest first.
abbrev pub tried : List Try → List SlotId
tried ts = map (λ t. t.slot) ts

-- the moves of these tries, the oldest first
abbrev pub taken_by : List Try → List Move
taken_by [] = []
taken_by (t ∷ ts) = taken_by ts ++ move (act.Claim t.slot) (outcome.Taken t.word) ∷ []

-- which word of bits has the bit of a slot
abbrev pub bits_of : SlotId → ℕ
bits_of s = s.0 / 64

-- the newest that these tries found word k of the bits to be: all set where none of them read it
abbrev pub latest : ℕ → List Try → ℕ
latest k [] = 2 ^ 64 - 1
latest k (t ∷ ts) = if bits_of t.slot == k then t.word else latest k ts

-- After these tries s may be claimed: none of them claimed it, and the newest that they found its
-- word of bits to be has its bit set.
pub record IsNext (z : Shape) (s : SlotId) (ts : List Try) : Type 0 where
  pub there : s.0 < z.slots
  pub untried : times s (tried ts) ≡ 0
  pub set : bit_in s (latest (bits_of s) ts) ≡ 1

-- each of the tries came so after those before it
abbrev pub AreInTurn : Shape → List Try → Type 0
AreInTurn z [] = Unit {0}
AreInTurn z (t ∷ ts) = IsNext z t.slot ts × AreInTurn z ts

-- one of the words found has the bit of s clear
abbrev pub IsShownTaken : SlotId → List Try → Type 0
IsShownTaken s [] = ⊥
IsShownTaken s (t ∷ ts) =
    ((bits_of t.slot ≡ bits_of s) × (bit_in s t.word ≡ 0)) ⊎ IsShownTaken s ts

-- the seat has claimed s and is to arm it, but for its trail
abbrev pub with_bare : SlotId → CoreView → CoreView
with_bare s v = record v { makes = v.makes + 1; phase = phase.Bare s }

module _ {P V : Type 0} (fits : List ℕ → Type 0) (d : DomainState P) where
  -- By these moves without a deed the seat came to have v. The client's view is as it was, and so is
  -- what the seat knows of the objects of its slots.
  pub record Goes (ms : List Move) (v : CoreView) (old new : SeatState V) : Type 0 where
    pub becomes : Becomes fits d same_view IsSameView ms v old new
    pub client : new.view.client ≡ old.view.client
    pub knows : KnowsStill old.view.core old new

  module _ (old new : SeatState V) where
    -- the seat has tried slots, each in its turn, and each slot of the domain was shown taken
    pub record Misses : Type 0 where
      pub tries : List Try
      pub in_turn : AreInTurn d.shape tries
      pub few : length tries ≤ d.shape.slots
      pub all_taken : (s : SlotId) → s.0 < d.shape.slots → IsShownTaken s tries
      pub goes : Goes (taken_by tries) old.view.core old new

    -- it has claimed s after such tries
    pub record Claims (s : SlotId) : Type 0 where
      pub tries : List Try
      pub in_turn : AreInTurn d.shape tries
      pub few : length tries < d.shape.slots
      pub next : IsNext d.shape s tries
      pub goes :
          Goes (taken_by tries ++ move (act.Claim s) outcome.Claimed ∷ [])
          (with_bare s old.view.core) old new

    -- it has claimed a slot, or missed them all
    abbrev pub Searches : Option SlotId → Type 0
    Searches None = Misses
    Searches (Some s) = Claims s
