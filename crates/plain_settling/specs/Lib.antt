-- What callers cite of the crates below.
pub use Rattle.plain_store.specs as plain_store
-- Its own.
pub mod Settling
pub mod Snapshots
