-- What callers cite of the proofs below.
pub use Rattle.slot_store.proofs.Below.control_word_Beginning as control_word_Beginning
pub use Rattle.slot_store.proofs.Below.core_law_Each as core_law_Each
pub use Rattle.slot_store.proofs.Below.core_law_Kit as core_law_Kit
