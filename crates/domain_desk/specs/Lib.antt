-- What callers cite of the crates below.
pub use Rattle.lone_heap.specs.acquire_retire as acquire_retire
pub use Rattle.lone_heap.specs.control_word as control_word
pub use Rattle.lone_heap.specs.core_events as core_events
pub use Rattle.lone_heap.specs as lone_heap
pub use Rattle.lone_heap.specs.protocol_pairs as protocol_pairs
-- Its own.
pub mod Desks
pub mod Runs
pub mod Closing
pub mod Marks
