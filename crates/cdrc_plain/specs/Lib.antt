-- What callers cite of the crates below.
pub use Rattle.plain_protocol.specs as plain_protocol
pub use Rattle.plain_store.specs as plain_store
-- Its own.
pub mod Watching
