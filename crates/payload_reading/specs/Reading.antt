-- How a seat reads a payload.
use Rattle.std.specs.Prelude.{ℕ, List}
use Rattle.protocol_pairs.specs.plain_state.declared.slot.SlotId.{SlotId}
use Rattle.slot_store.specs.acquire_retire.Domains.{DomainState}
use Rattle.slot_store.specs.acquire_retire.Seats.{SeatState}
use Rattle.slot_store.specs.Reaping.{seen_by}
use Rattle.slot_store.specs.Searching.{Goes}

-- The seat has seen each word of the payload of s once, in order, and these were the words. Only its trail has grown,
-- and what it knows of the objects of its slots is as it was.
pub record SeesPayload {P V : Type 0} (fits : List ℕ → Type 0) (d : DomainState P) (s : SlotId)
    (payload : List ℕ) (old new : SeatState V) : Type 0 where
  pub goes : Goes fits d (seen_by s payload) old.view.core old new
