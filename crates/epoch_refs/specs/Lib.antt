-- What callers cite of the crates below.
pub use Rattle.epoch_domain.specs as epoch_domain
pub use Rattle.epoch_domain.specs.epoch_core as epoch_core
pub use Rattle.epoch_domain.specs.epoch_rule as epoch_rule
pub use Rattle.epoch_domain.specs.plain_protocol as plain_protocol
-- Its own.
pub mod Walks
pub mod Calls
pub mod Exchanges
pub mod Flushing
pub mod Dying
pub mod Searching
pub mod Making
