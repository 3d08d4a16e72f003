-- What callers cite of the crates below.
pub use Rattle.weak_part_calls.specs.acquire_retire as acquire_retire
pub use Rattle.weak_part_calls.specs.atomic_shared as atomic_shared
pub use Rattle.weak_part_calls.specs.atomic_weak as atomic_weak
pub use Rattle.weak_part_calls.specs.claim_law as claim_law
pub use Rattle.weak_part_calls.specs.control_word as control_word
pub use Rattle.weak_part_calls.specs.core_events as core_events
pub use Rattle.weak_part_calls.specs.deleter as deleter
pub use Rattle.weak_part_calls.specs.domain_rule as domain_rule
pub use Rattle.linked_queue.specs as linked_queue
pub use Rattle.weak_part_calls.specs.part_calls as part_calls
pub use Rattle.weak_part_calls.specs.plain_state as plain_state
pub use Rattle.linked_queue.specs.queue_law as queue_law
pub use Rattle.linked_queue.specs.queue_protocol as queue_protocol
pub use Rattle.weak_part_calls.specs.retiring_stores as retiring_stores
pub use Rattle.weak_part_calls.specs.slot_store as slot_store
pub use Rattle.weak_part_calls.specs as weak_part_calls
-- Its own.
pub mod Queues
pub mod Leaving
pub mod Before
pub mod Pushes
pub mod Steps
pub mod NotPushed
pub mod Waits
