-- What callers cite of the crates below.
pub use Rattle.control_word.specs.acquire_retire as acquire_retire
pub use Rattle.control_word.specs as control_word
pub use Rattle.control_word.specs.counted_handles as counted_handles
pub use Rattle.control_word.specs.domain_rule as domain_rule
-- Its own.
pub mod Scanning
pub mod Leaving
pub mod Exchanging
