-- What flushes leave of a seat.
use Rattle.std.specs.Prelude.{ℕ, ◌≡◌, ◌+◌, ◌<◌, ◌-◌, ◌^◌, List, [], ◌∷◌, min}
use Rattle.epoch_refs.specs.plain_protocol.plain_state.declared.slot.SlotId.{SlotId}
use Rattle.epoch_refs.specs.plain_protocol.plain_state.Lists.{times}
use Rattle.epoch_refs.specs.epoch_rule.Views.{object_in}
use Rattle.epoch_refs.specs.epoch_domain.Domains.{DomainState}
use Rattle.epoch_refs.specs.epoch_domain.Seats.{SeatState}
use Rattle.epoch_refs.specs.declared.flushing.EpochWork.{EpochWork}
use Rattle.epoch_refs.specs.Flushing.{Flushes, IsFlushing}

module _ {V : Type 0} where
  -- Flushes change what is pending and dying, the epoch that the seat knows, and its trail. The client's view is as it
  -- was, and so is what the seat knows of each object that it owns.
  pub record StaysBut (old new : SeatState V) : Type 0 where
    pub core : IsFlushing old.view.core new.view.core
    pub client : new.view.client ≡ old.view.client
    pub knows :
        (x : SlotId) → 0 < times x old.view.core.owned
        → object_in new.view x ≡ object_in old.view x

-- the weights that flushes answered, together
abbrev pub weights_of : List EpochWork → ℕ
weights_of [] = 0
weights_of (work ∷ works) = work.weight + weights_of works

module _ {P V : Type 0} where
  -- it has made these flushes, in turn
  abbrev pub FlushesEach : (List ℕ → Type 0) → DomainState P → (List ℕ → ℕ) → List EpochWork
      → SeatState V → SeatState V → Type 0
  FlushesEach fits d weighs [] old new = new ≡ old
  FlushesEach fits d weighs (work ∷ works) old new =
      (mid : SeatState V) × Flushes fits d weighs work old mid × FlushesEach fits d weighs works mid new

  -- The seat has made flushes until nothing of its was pending and nothing to be destroyed. `weight` adds up what these
  -- weighed, where that is below 2^64.
  pub record Settles (fits : List ℕ → Type 0) (d : DomainState P) (weighs : List ℕ → ℕ)
      (weight : ℕ) (old new : SeatState V) : Type 0 where
    pub works : List EpochWork
    pub flushes : FlushesEach fits d weighs works old new
    pub weighed : weight ≡ min (weights_of works) (2 ^ 64 - 1)
    pub pending : new.view.core.pending ≡ []
    pub dying : new.view.core.dying ≡ []
