-- What callers cite of the crates below.
pub use Rattle.snapshot_ptr.specs as snapshot_ptr
-- Its own.
pub mod Reading
pub mod Going
pub mod Deeds
