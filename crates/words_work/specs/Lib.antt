-- What callers cite of the crates below.
pub use Rattle.file_work.specs.Contents as Contents
pub use Rattle.file_work.specs.Limits as Limits
pub use Rattle.file_work.specs as file_work
pub use Rattle.lane_reports.specs.directory_law as directory_law
pub use Rattle.lane_reports.specs.lane_gate as lane_gate
pub use Rattle.lane_reports.specs.queue_law as queue_law
pub use Rattle.lane_reports.specs.queue_protocol as queue_protocol
pub use Rattle.lane_reports.specs.words_law as words_law
-- Its own.
pub mod Beginnings
pub mod Outcomes
