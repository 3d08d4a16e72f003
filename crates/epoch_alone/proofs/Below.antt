-- What callers cite of the proofs of the crates below.
pub use Rattle.core_law.proofs.Each as core_law_Each
pub use Rattle.core_law.proofs.Kit as core_law_Kit
pub use Rattle.core_law.proofs.Lists as core_law_Lists
pub use Rattle.epoch_settling.proofs.Below.epoch_core_Bridge as epoch_core_Bridge
pub use Rattle.epoch_settling.proofs.Below.epoch_core_Lawful as epoch_core_Lawful
pub use Rattle.epoch_settling.proofs.Below.epoch_core_Put as epoch_core_Put
