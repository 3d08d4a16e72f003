-- What callers cite of the proofs below.
pub use Rattle.directory_law.proofs.Bytes as directory_law_Bytes
pub use Rattle.directory_law.proofs.Chains as directory_law_Chains
pub use Rattle.directory_law.proofs.Notes as directory_law_Notes
