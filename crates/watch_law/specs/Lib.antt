-- What callers cite of the crates below.
pub use Rattle.plain_protocol.specs as plain_protocol
pub use Rattle.plain_protocol.specs.plain_state as plain_state
pub use Rattle.protocol_pairs.specs as protocol_pairs
pub use Rattle.queue_law.specs as queue_law
-- Its own.
pub mod Payloads
pub mod Views
pub mod Law
pub mod Owned
pub mod Steps
pub mod Making
pub mod Writes
pub mod Lessons
pub mod News
pub mod Pushes
pub mod Promises
