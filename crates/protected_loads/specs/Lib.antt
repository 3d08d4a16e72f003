-- What callers cite of the crates below.
pub use Rattle.control_word.specs.acquire_retire as acquire_retire
pub use Rattle.control_word.specs.announce_slots as announce_slots
pub use Rattle.control_word.specs as control_word
pub use Rattle.control_word.specs.core_events as core_events
pub use Rattle.control_word.specs.core_functions as core_functions
pub use Rattle.control_word.specs.core_law as core_law
pub use Rattle.control_word.specs.counted_handles as counted_handles
pub use Rattle.control_word.specs.counter_word as counter_word
pub use Rattle.control_word.specs.domain_rule as domain_rule
pub use Rattle.control_word.specs.plain_protocol as plain_protocol
pub use Rattle.control_word.specs.plain_state as plain_state
-- Its own.
pub mod Nulls
pub mod Looks
pub mod Loads
pub mod References
pub mod Retries
