-- What callers cite of the proofs below.
pub use Rattle.directory_law.proofs.Bytes as directory_law_Bytes
pub use Rattle.words_law.proofs.Known as words_law_Known
