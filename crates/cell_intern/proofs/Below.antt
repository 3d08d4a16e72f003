-- What callers cite of the proofs of the crates below.
pub use Rattle.cell_calls.proofs.Keeping as cell_calls_Keeping
pub use Rattle.cell_finding.proofs.Looks as cell_finding_Looks
pub use Rattle.cell_making.proofs.Kept as cell_making_Kept
pub use Rattle.cell_making.proofs.Owned as cell_making_Owned
pub use Rattle.epoch_domain.proofs.Below.core_law_Kit as core_law_Kit
pub use Rattle.record_texts.proofs.Packed as record_texts_Packed
