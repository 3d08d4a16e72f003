-- What callers cite of the crates below.
pub use Rattle.cell_domain.specs as cell_domain
pub use Rattle.cell_domain.specs.cell_lanes as cell_lanes
pub use Rattle.cell_gathering.specs as cell_gathering
pub use Rattle.cell_records.specs as cell_records
pub use Rattle.cell_gathering.specs.cdrc_text as cdrc_text
pub use Rattle.cell_domain.specs.epoch_refs as epoch_refs
pub use Rattle.cell_domain.specs.lane_work as lane_work
-- Its own.
pub mod Parting
pub mod Refusals
pub mod Counted
pub mod Last
