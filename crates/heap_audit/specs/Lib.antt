-- What callers cite of the crates below.
pub use Rattle.deleter.specs.counter_word as counter_word
pub use Rattle.deleter.specs as deleter
pub use Rattle.deleter.specs.plain_state as plain_state
-- Its own.
pub mod Heaps
pub mod Paths
pub mod Reached
pub mod Walks
pub mod Marking
pub mod Tables
