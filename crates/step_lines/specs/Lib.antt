-- What callers cite of the crates below.
pub use Rattle.core_events.specs as core_events
pub use Rattle.core_events.specs.plain_state as plain_state
-- Its own.
pub mod Spelling
pub mod Beyond
pub mod Reading
pub mod Texts
