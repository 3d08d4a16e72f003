-- What callers cite of the crates below.
pub use Rattle.domain_rule.specs as domain_rule
pub use Rattle.epoch_core.specs as epoch_core
pub use Rattle.domain_rule.specs.plain_protocol as plain_protocol
-- Its own.
pub mod Views
pub mod Past
pub mod Rule
pub mod Told
pub mod Opening
pub mod Reading
