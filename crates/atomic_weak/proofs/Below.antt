-- What callers cite of the proofs below.
pub use Rattle.protected_loads.proofs.Below.control_word_Becoming as control_word_Becoming
pub use Rattle.protected_loads.proofs.Below.control_word_Gaining as control_word_Gaining
pub use Rattle.protected_loads.proofs.Below.control_word_Owning as control_word_Owning
pub use Rattle.protected_loads.proofs.Below.core_law_Kit as core_law_Kit
pub use Rattle.protected_loads.proofs.Below.core_law_ShownPlaces as core_law_ShownPlaces
pub use Rattle.protected_loads.proofs.Checking as protected_loads_Checking
pub use Rattle.protected_loads.proofs.Learning as protected_loads_Learning
pub use Rattle.protected_loads.proofs.Noting as protected_loads_Noting
pub use Rattle.protected_loads.proofs.Protecting as protected_loads_Protecting
pub use Rattle.protected_loads.proofs.Telling as protected_loads_Telling
