-- What callers cite of the crates below.
pub use Rattle.directory_law.specs as directory_law
pub use Rattle.plain_protocol.specs as plain_protocol
pub use Rattle.plain_protocol.specs.plain_state as plain_state
-- Its own.
pub mod Views
pub mod Cells
pub mod Law
pub mod Owned
pub mod Walks
pub mod Making
pub mod Lessons
pub mod Promises
