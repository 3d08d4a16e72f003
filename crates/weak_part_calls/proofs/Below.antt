-- What callers cite of the proofs below.
pub use Rattle.control_word.proofs.Below.acquire_retire_Wholes as acquire_retire_Wholes
pub use Rattle.part_calls.proofs.Below.claim_law_Taken as claim_law_Taken
pub use Rattle.control_word.proofs.Below.core_law_Kit as core_law_Kit
pub use Rattle.part_calls.proofs.Beside as part_calls_Beside
pub use Rattle.part_calls.proofs.Seen as part_calls_Seen
pub use Rattle.part_calls.proofs.Below.protected_loads_Learning as protected_loads_Learning
pub use Rattle.part_calls.proofs.Below.protected_loads_Telling as protected_loads_Telling
pub use Rattle.part_calls.proofs.Below.slot_store_Exhausting as slot_store_Exhausting
pub use Rattle.part_calls.proofs.Below.slot_store_Passing as slot_store_Passing
