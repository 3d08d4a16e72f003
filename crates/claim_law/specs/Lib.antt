-- What callers cite of the crates below.
pub use Rattle.core_promises.specs.announce_slots as announce_slots
pub use Rattle.core_promises.specs.core_events as core_events
pub use Rattle.core_promises.specs.core_law as core_law
pub use Rattle.core_promises.specs as core_promises
-- Its own.
pub mod Claims
