-- What callers cite of the crates below.
pub use Rattle.core_law.specs.announce_slots as announce_slots
pub use Rattle.core_law.specs.core_events as core_events
pub use Rattle.core_law.specs as core_law
pub use Rattle.core_law.specs.plain_state as plain_state
-- Its own.
pub mod Finds
pub mod Destroyed
pub mod Trails
pub mod Made
