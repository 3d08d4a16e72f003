-- What callers cite of the crates below.
pub use Rattle.acquire_retire.specs as acquire_retire
pub use Rattle.acquire_retire.specs.announce_slots as announce_slots
pub use Rattle.acquire_retire.specs.core_events as core_events
pub use Rattle.acquire_retire.specs.core_functions as core_functions
pub use Rattle.acquire_retire.specs.core_law as core_law
pub use Rattle.counted_handles.specs as counted_handles
pub use Rattle.counted_handles.specs.counter_word as counter_word
pub use Rattle.acquire_retire.specs.domain_rule as domain_rule
pub use Rattle.acquire_retire.specs.plain_protocol as plain_protocol
pub use Rattle.counted_handles.specs.plain_state as plain_state
-- Its own.
pub mod Resting
pub mod Moves
pub mod Calls
pub mod Trials
