-- What callers cite of the proofs below.
pub use Rattle.slot_store.proofs.Below.claim_law_Taken as claim_law_Taken
pub use Rattle.control_word.proofs.Beginning as control_word_Beginning
pub use Rattle.control_word.proofs.NotedBack as control_word_NotedBack
pub use Rattle.control_word.proofs.Below.core_law_Each as core_law_Each
pub use Rattle.control_word.proofs.Below.core_law_Kit as core_law_Kit
pub use Rattle.atomic_shared.proofs.Below.protected_loads_Learning as protected_loads_Learning
pub use Rattle.atomic_shared.proofs.Below.protected_loads_Noting as protected_loads_Noting
pub use Rattle.atomic_shared.proofs.Below.protected_loads_Telling as protected_loads_Telling
pub use Rattle.atomic_shared.proofs.Below.retiring_stores_Afterwards as retiring_stores_Afterwards
pub use Rattle.slot_store.proofs.Exhausting as slot_store_Exhausting
pub use Rattle.slot_store.proofs.Passing as slot_store_Passing
