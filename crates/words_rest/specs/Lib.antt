-- What callers cite of the crates below.
pub use Rattle.plain_audit.specs.deleter as deleter
pub use Rattle.words_law.specs.directory_law as directory_law
pub use Rattle.plain_audit.specs.heap_audit as heap_audit
pub use Rattle.plain_audit.specs as plain_audit
pub use Rattle.words_law.specs.protocol_pairs as protocol_pairs
pub use Rattle.words_law.specs.queue_law as queue_law
pub use Rattle.record_counts.specs as record_counts
pub use Rattle.words_law.specs as words_law
-- Its own.
pub mod Rest
pub mod Nodes
pub mod Records
pub mod Needed
pub mod Kept
pub mod Written
