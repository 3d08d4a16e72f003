-- What callers cite of the proofs below.
pub use Rattle.directory_protocol.proofs.Below.directory_law_Bytes as directory_law_Bytes
pub use Rattle.directory_protocol.proofs.Below.directory_law_Ends as directory_law_Ends
pub use Rattle.directory_protocol.proofs.Below.directory_law_Kit as directory_law_Kit
pub use Rattle.directory_protocol.proofs.Below.directory_law_Notes as directory_law_Notes
pub use Rattle.directory_protocol.proofs.Below.directory_law_ReadingOn as directory_law_ReadingOn
