-- What callers cite of the proofs below.
pub use Rattle.linked_queue.proofs.Readings as linked_queue_Readings
pub use Rattle.weak_part_calls.proofs.Below.claim_law_Taken as claim_law_Taken
pub use Rattle.weak_part_calls.proofs.Below.protected_loads_Telling as protected_loads_Telling
pub use Rattle.weak_part_calls.proofs.Below.slot_store_Exhausting as slot_store_Exhausting
pub use Rattle.weak_part_calls.proofs.Below.slot_store_Passing as slot_store_Passing
