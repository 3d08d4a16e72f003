-- What callers cite of the crates below.
pub use Rattle.lane_gate.specs as lane_gate
pub use Rattle.lane_work.specs as lane_work
pub use Rattle.queue_law.specs as queue_law
pub use Rattle.run_requests.specs as run_requests
-- Its own.
pub mod Contents
pub mod Limits
pub mod Cuts
pub mod Reads
pub mod Outcomes
