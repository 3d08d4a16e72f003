-- What callers cite of the crates below.
pub use Rattle.slot_store.specs as slot_store
-- Its own.
pub mod Reading
