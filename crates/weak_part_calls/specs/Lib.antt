-- What callers cite of the crates below.
pub use Rattle.control_word.specs.acquire_retire as acquire_retire
pub use Rattle.part_calls.specs.atomic_shared as atomic_shared
pub use Rattle.atomic_weak.specs as atomic_weak
pub use Rattle.part_calls.specs.claim_law as claim_law
pub use Rattle.control_word.specs as control_word
pub use Rattle.control_word.specs.core_events as core_events
pub use Rattle.control_word.specs.counted_handles as counted_handles
pub use Rattle.part_calls.specs.deleter as deleter
pub use Rattle.control_word.specs.domain_rule as domain_rule
pub use Rattle.part_calls.specs as part_calls
pub use Rattle.control_word.specs.plain_protocol as plain_protocol
pub use Rattle.control_word.specs.plain_state as plain_state
pub use Rattle.atomic_weak.specs.protected_loads as protected_loads
pub use Rattle.atomic_weak.specs.retiring_stores as retiring_stores
pub use Rattle.part_calls.specs.slot_store as slot_store
