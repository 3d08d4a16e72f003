-- What callers cite of the crates below.
pub use Rattle.core_promises.specs.announce_slots as announce_slots
pub use Rattle.core_promises.specs.core_events as core_events
pub use Rattle.dying_slots.specs.core_functions as core_functions
pub use Rattle.core_promises.specs.core_law as core_law
pub use Rattle.domain_rule.specs as domain_rule
pub use Rattle.domain_rule.specs.plain_protocol as plain_protocol
-- Its own.
pub mod Domains
pub mod Seats
pub mod Calls
pub mod Notes
pub mod Openings
pub mod Leavings
pub mod Collecting
pub mod Wholes
pub mod Taken
pub mod Scripts
