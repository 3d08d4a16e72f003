-- What callers cite of the crates below.
pub use Rattle.protected_loads.specs.acquire_retire as acquire_retire
pub use Rattle.protected_loads.specs.control_word as control_word
pub use Rattle.protected_loads.specs.core_events as core_events
pub use Rattle.protected_loads.specs.core_functions as core_functions
pub use Rattle.protected_loads.specs.core_law as core_law
pub use Rattle.protected_loads.specs.counted_handles as counted_handles
pub use Rattle.protected_loads.specs.counter_word as counter_word
pub use Rattle.protected_loads.specs.domain_rule as domain_rule
pub use Rattle.plain_audit.specs.heap_audit as heap_audit
pub use Rattle.plain_audit.specs as plain_audit
pub use Rattle.protected_loads.specs.plain_protocol as plain_protocol
pub use Rattle.protected_loads.specs.plain_state as plain_state
pub use Rattle.protected_loads.specs as protected_loads
pub use Rattle.slot_store.specs.protocol_pairs as protocol_pairs
pub use Rattle.slot_store.specs as slot_store
-- Its own.
pub mod Lone
pub mod Audits
