-- What callers cite of the crates below.
pub use Rattle.lane_files.specs.atomic_weak as atomic_weak
pub use Rattle.lane_files.specs.directory_calls as directory_calls
pub use Rattle.lane_files.specs as lane_files
pub use Rattle.lane_files.specs.lane_gate as lane_gate
pub use Rattle.lane_files.specs.lane_work.Sizes as Sizes
pub use Rattle.lane_files.specs.linked_queue as linked_queue
pub use Rattle.lane_files.specs.queue_protocol as queue_protocol
pub use Rattle.lane_files.specs.text_reading as text_reading
pub use Rattle.lane_files.specs.weak_intern as weak_intern
pub use Rattle.lane_files.specs.words_protocol as words_protocol
-- Its own.
pub mod Opened
pub mod Beginning
pub mod Ending
pub mod Jobs
