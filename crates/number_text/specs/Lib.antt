-- What callers cite of the crates below.
pub use Rattle.cdrc_text.specs as cdrc_text
-- Its own.
pub mod Counts
pub mod Index
pub mod Numbers
pub mod Refused
pub mod Report
