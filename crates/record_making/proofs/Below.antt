-- What callers cite of the proofs below.
pub use Rattle.directory_calls.proofs.Going as directory_calls_Going
pub use Rattle.directory_calls.proofs.Learnt as directory_calls_Learnt
pub use Rattle.directory_calls.proofs.Parts as directory_calls_Parts
pub use Rattle.directory_calls.proofs.Below.directory_law_Bytes as directory_law_Bytes
pub use Rattle.directory_calls.proofs.Below.directory_law_Ends as directory_law_Ends
pub use Rattle.directory_calls.proofs.Below.directory_law_Kit as directory_law_Kit
pub use Rattle.record_texts.proofs.Packed as record_texts_Packed
