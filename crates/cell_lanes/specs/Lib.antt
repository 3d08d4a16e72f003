-- What callers cite of the crates below.
pub use Rattle.cell_intern.specs.cell_calls as cell_calls
pub use Rattle.cell_intern.specs as cell_intern
pub use Rattle.cell_intern.specs.cell_making as cell_making
pub use Rattle.cell_rest.specs as cell_rest
pub use Rattle.cell_intern.specs.epoch_refs as epoch_refs
pub use Rattle.lane_work.specs as lane_work
pub use Rattle.cell_rest.specs.record_counts as record_counts
-- Its own.
pub mod Counting
pub mod Keeping
pub mod Lanes
pub mod Ready
pub mod Stopping
