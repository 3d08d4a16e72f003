-- What callers cite of the crates below.
pub use Rattle.domain_audit.specs as domain_audit
pub use Rattle.law_lesson.specs as law_lesson
pub use Rattle.payload_reading.specs as payload_reading
pub use Rattle.snapshot_ptr.specs as snapshot_ptr
-- Its own.
pub mod Free
pub mod Opening
pub mod Leaving
pub mod Ends
pub mod Turns
pub mod Values
pub mod Learning
pub mod Kinds
