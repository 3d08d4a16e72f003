-- What callers cite of the crates below.
pub use Rattle.control_word.specs.acquire_retire as acquire_retire
pub use Rattle.hand_queues.specs.atomic_weak as atomic_weak
pub use Rattle.words_protocol.specs.cdrc_text as cdrc_text
pub use Rattle.hand_queues.specs.claim_law as claim_law
pub use Rattle.control_word.specs as control_word
pub use Rattle.control_word.specs.core_events as core_events
pub use Rattle.control_word.specs.core_functions as core_functions
pub use Rattle.hand_queues.specs.deleter as deleter
pub use Rattle.weak_intern.specs.directory_calls as directory_calls
pub use Rattle.words_protocol.specs.directory_law as directory_law
pub use Rattle.words_protocol.specs.directory_protocol as directory_protocol
pub use Rattle.control_word.specs.domain_rule as domain_rule
pub use Rattle.hand_queues.specs as hand_queues
pub use Rattle.lane_gate.specs as lane_gate
pub use Rattle.lane_work.specs as lane_work
pub use Rattle.lane_work.specs.FilePieces as FilePieces
pub use Rattle.lane_work.specs.Work as Work
pub use Rattle.hand_queues.specs.linked_queue as linked_queue
pub use Rattle.hand_queues.specs.part_calls as part_calls
pub use Rattle.control_word.specs.plain_state as plain_state
pub use Rattle.words_protocol.specs.protocol_pairs as protocol_pairs
pub use Rattle.words_protocol.specs.queue_law as queue_law
pub use Rattle.words_protocol.specs.queue_protocol as queue_protocol
pub use Rattle.hand_queues.specs.slot_store as slot_store
pub use Rattle.weak_intern.specs.text_reading as text_reading
pub use Rattle.weak_intern.specs as weak_intern
pub use Rattle.words_protocol.specs.words_law as words_law
pub use Rattle.words_protocol.specs as words_protocol
-- Its own.
pub mod Passed
pub mod Draining
pub mod PieceMakes
pub mod Pieces
pub mod Ready
pub mod Scans
pub mod Whys
pub mod Counting
pub mod Keeping
pub mod Lanes
pub mod Makes
pub mod Missing
pub mod Owning
pub mod Next
