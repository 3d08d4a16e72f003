-- What callers cite of the crates below.
pub use Rattle.record_counts.specs.cdrc_text as cdrc_text
pub use Rattle.cell_law.specs as cell_law
pub use Rattle.plain_audit.specs as plain_audit
pub use Rattle.record_counts.specs as record_counts
pub use Rattle.plain_audit.specs.deleter as deleter
pub use Rattle.record_counts.specs.directory_law as directory_law
-- Its own.
pub mod Kept
pub mod Words
pub mod Rest
pub mod Written
