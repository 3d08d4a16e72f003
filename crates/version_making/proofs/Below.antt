-- What callers cite of the proofs of the crates below.
pub use Rattle.slot_store.proofs.Below.control_word_Becoming as control_word_Becoming
pub use Rattle.slot_store.proofs.Below.core_law_Kit as core_law_Kit
pub use Rattle.protected_loads.proofs.Below.core_law_ShownPlaces as core_law_ShownPlaces
pub use Rattle.map_law.proofs.Plans as map_law_Plans
pub use Rattle.protected_loads.proofs.Noting as protected_loads_Noting
pub use Rattle.protected_loads.proofs.Telling as protected_loads_Telling
