-- What callers cite of the proofs below.
pub use Rattle.control_word.proofs.Below.core_law_Kit as core_law_Kit
pub use Rattle.weak_part_calls.proofs.Below.protected_loads_Telling as protected_loads_Telling
