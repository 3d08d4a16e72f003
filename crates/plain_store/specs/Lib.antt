-- What callers cite of the crates below.
pub use Rattle.plain_state.specs as plain_state
-- Its own.
pub mod Heaps
pub mod Calls
pub mod Settling
pub mod Stores
pub mod Draining
