-- What callers cite of the crates below.
pub use Rattle.cell_intern.specs.cell_calls as cell_calls
pub use Rattle.cell_rest.specs as cell_rest
pub use Rattle.epoch_alone.specs as epoch_alone
pub use Rattle.cell_intern.specs.epoch_refs as epoch_refs
pub use Rattle.tally_sums.specs as tally_sums
pub use Rattle.cell_rest.specs.cell_law as cell_law
pub use Rattle.cell_rest.specs.directory_law as directory_law
pub use Rattle.lane_work.specs as lane_work
-- Its own.
pub mod Root
pub mod Records
pub mod Lives
pub mod Clearing
pub mod Audits
pub mod Rows
