-- What callers cite of the proofs below.
pub use Rattle.core_law.proofs.Each as core_law_Each
pub use Rattle.core_law.proofs.Kit as core_law_Kit
pub use Rattle.core_law.proofs.Lists as core_law_Lists
pub use Rattle.epoch_core.proofs.Bridge as epoch_core_Bridge
pub use Rattle.epoch_core.proofs.Held as epoch_core_Held
pub use Rattle.epoch_core.proofs.Keeps as epoch_core_Keeps
pub use Rattle.epoch_core.proofs.Kit as epoch_core_Kit
pub use Rattle.epoch_core.proofs.Parts as epoch_core_Parts
pub use Rattle.epoch_rule.proofs.Others as epoch_rule_Others
