-- What callers cite of the crates below.
pub use Rattle.cdrc_text.specs as cdrc_text
pub use Rattle.directory_law.specs as directory_law
pub use Rattle.plain_audit.specs as plain_audit
-- Its own.
pub mod Told
pub mod Records
pub mod Written
