-- What callers cite of the crates below.
pub use Rattle.queue_law.specs as queue_law
pub use Rattle.queue_protocol.specs as queue_protocol
pub use Rattle.queue_protocol.specs.protocol_pairs as protocol_pairs
pub use Rattle.watch_law.specs as watch_law
pub use Rattle.watch_law.specs.plain_protocol as plain_protocol
pub use Rattle.watch_law.specs.plain_state as plain_state
-- Its own.
pub mod Sides
