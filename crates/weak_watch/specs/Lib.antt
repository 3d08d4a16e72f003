-- What callers cite of the crates below.
pub use Rattle.hand_queues.specs as hand_queues
pub use Rattle.linked_queue.specs as linked_queue
pub use Rattle.part_calls.specs as part_calls
pub use Rattle.watch_protocol.specs.watch_law as watch_law
pub use Rattle.watch_protocol.specs as watch_protocol
pub use Rattle.weak_part_calls.specs as weak_part_calls
-- Its own.
pub mod Keeping
pub mod Subjects
pub mod Subscribing
pub mod Finding
pub mod Sending
pub mod Queues
pub mod Fates
pub mod Receiving
