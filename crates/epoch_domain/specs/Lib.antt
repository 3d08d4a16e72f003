-- What callers cite of the crates below.
pub use Rattle.epoch_rule.specs.domain_rule as domain_rule
pub use Rattle.epoch_parts.specs.core_functions as core_functions
pub use Rattle.epoch_rule.specs.epoch_core as epoch_core
pub use Rattle.epoch_parts.specs as epoch_parts
pub use Rattle.epoch_rule.specs as epoch_rule
pub use Rattle.epoch_rule.specs.plain_protocol as plain_protocol
-- Its own.
pub mod Domains
pub mod Seats
pub mod Calls
pub mod Exchanging
pub mod Openings
pub mod Leavings
pub mod Entering
pub mod Wholes
