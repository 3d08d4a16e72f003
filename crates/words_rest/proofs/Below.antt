-- What callers cite of the proofs below.
pub use Rattle.record_counts.proofs.Joined as record_counts_Joined
pub use Rattle.record_counts.proofs.Sums as record_counts_Sums
pub use Rattle.record_counts.proofs.Told as record_counts_Told
pub use Rattle.words_law.proofs.Below.directory_law_Notes as directory_law_Notes
pub use Rattle.words_law.proofs.Below.queue_law_Shut as queue_law_Shut
pub use Rattle.words_law.proofs.Counts as words_law_Counts
pub use Rattle.words_law.proofs.Known as words_law_Known
pub use Rattle.words_law.proofs.Parts as words_law_Parts
pub use Rattle.words_law.proofs.Root as words_law_Root
