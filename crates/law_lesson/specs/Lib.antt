-- What callers cite of the crates below.
pub use Rattle.plain_protocol.specs.counter_word as counter_word
pub use Rattle.plain_protocol.specs as plain_protocol
pub use Rattle.plain_protocol.specs.plain_state as plain_state
-- Its own.
pub mod Lessons
pub mod Learns
