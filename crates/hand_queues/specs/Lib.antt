-- What callers cite of the crates below.
pub use Rattle.double_link_queue.specs.atomic_shared as atomic_shared
pub use Rattle.double_link_queue.specs.atomic_weak as atomic_weak
pub use Rattle.double_link_queue.specs.claim_law as claim_law
pub use Rattle.double_link_queue.specs.deleter as deleter
pub use Rattle.double_link_queue.specs as double_link_queue
pub use Rattle.double_link_queue.specs.linked_queue as linked_queue
pub use Rattle.double_link_queue.specs.part_calls as part_calls
pub use Rattle.double_link_queue.specs.queue_law as queue_law
pub use Rattle.double_link_queue.specs.queue_protocol as queue_protocol
pub use Rattle.double_link_queue.specs.retiring_stores as retiring_stores
pub use Rattle.double_link_queue.specs.slot_store as slot_store
pub use Rattle.double_link_queue.specs.weak_part_calls as weak_part_calls
-- Its own.
pub mod Queues
pub mod Pushes
