-- What callers cite of the crates below.
pub use Rattle.protected_loads.specs.acquire_retire as acquire_retire
pub use Rattle.protected_loads.specs.control_word as control_word
pub use Rattle.protected_loads.specs.core_events as core_events
pub use Rattle.protected_loads.specs.counted_handles as counted_handles
pub use Rattle.protected_loads.specs.counter_word as counter_word
pub use Rattle.protected_loads.specs.domain_rule as domain_rule
pub use Rattle.protected_loads.specs.plain_protocol as plain_protocol
pub use Rattle.protected_loads.specs.plain_state as plain_state
pub use Rattle.protected_loads.specs as protected_loads
pub use Rattle.retiring_stores.specs as retiring_stores
-- Its own.
pub mod Places
pub mod Loading
pub mod WeakSnapshots
pub mod Questions
pub mod Taking
pub mod Ending
