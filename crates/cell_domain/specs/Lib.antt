-- What callers cite of the crates below.
pub use Rattle.cell_lanes.specs.cell_calls as cell_calls
pub use Rattle.cell_lanes.specs as cell_lanes
pub use Rattle.cell_lanes.specs.epoch_refs as epoch_refs
pub use Rattle.cell_lanes.specs.lane_work as lane_work
-- Its own.
pub mod Opened
pub mod Ending
pub mod Jobs
