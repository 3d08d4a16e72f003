-- What callers cite of the crates below.
pub use Rattle.domain_audit.specs.acquire_retire as acquire_retire
pub use Rattle.tally_sums.specs.cdrc_text as cdrc_text
pub use Rattle.domain_audit.specs.control_word as control_word
pub use Rattle.words_rest.specs.deleter as deleter
pub use Rattle.words_rest.specs.directory_law as directory_law
pub use Rattle.lane_domain.specs as lane_domain
pub use Rattle.lane_domain.specs.lane_files as lane_files
pub use Rattle.lane_domain.specs.lane_gate as lane_gate
pub use Rattle.law_lesson.specs.plain_state as plain_state
pub use Rattle.words_rest.specs.protocol_pairs as protocol_pairs
pub use Rattle.words_rest.specs.queue_law as queue_law
pub use Rattle.lane_domain.specs.queue_protocol as queue_protocol
pub use Rattle.words_rest.specs.words_law as words_law
-- Its own.
pub mod Parting
pub mod Taking
pub mod Refusals
pub mod Reporting
pub mod Counting
pub mod Deeds
pub mod Gathering
pub mod Kept
pub mod Shutting
pub mod Holders
pub mod Learning
pub mod Rows
pub mod Audits
pub mod Trails
pub mod HolderCounts
