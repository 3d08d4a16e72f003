-- What callers cite of the proofs below.
pub use Rattle.directory_law.proofs.Bytes as directory_law_Bytes
pub use Rattle.directory_law.proofs.Ends as directory_law_Ends
pub use Rattle.directory_law.proofs.Kit as directory_law_Kit
pub use Rattle.directory_law.proofs.Notes as directory_law_Notes
pub use Rattle.directory_law.proofs.ReadingOn as directory_law_ReadingOn
