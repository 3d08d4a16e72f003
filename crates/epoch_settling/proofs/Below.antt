-- What callers cite of the proofs of the crates below.
pub use Rattle.epoch_core.proofs.Bridge as epoch_core_Bridge
pub use Rattle.epoch_core.proofs.Keeps as epoch_core_Keeps
pub use Rattle.epoch_core.proofs.Lawful as epoch_core_Lawful
pub use Rattle.epoch_core.proofs.Parts as epoch_core_Parts
pub use Rattle.epoch_core.proofs.Put as epoch_core_Put
pub use Rattle.epoch_core.proofs.ShownExchanges as epoch_core_ShownExchanges
pub use Rattle.epoch_core.proofs.ShownFrames as epoch_core_ShownFrames
pub use Rattle.epoch_core.proofs.ShownQuiet as epoch_core_ShownQuiet
pub use Rattle.epoch_core.proofs.ShownRegions as epoch_core_ShownRegions
pub use Rattle.epoch_rule.proofs.Others as epoch_rule_Others
pub use Rattle.epoch_rule.proofs.Reading as epoch_rule_Reading
pub use Rattle.epoch_rule.proofs.Views as epoch_rule_Views
