-- What callers cite of the proofs below.
pub use Rattle.double_link_queue.proofs.Below.linked_queue_Readings as linked_queue_Readings
pub use Rattle.double_link_queue.proofs.Below.claim_law_Taken as claim_law_Taken
pub use Rattle.double_link_queue.proofs.Below.protected_loads_Telling as protected_loads_Telling
pub use Rattle.double_link_queue.proofs.Below.slot_store_Exhausting as slot_store_Exhausting
pub use Rattle.double_link_queue.proofs.Below.slot_store_Passing as slot_store_Passing
