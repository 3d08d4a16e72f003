-- What callers cite of the crates below.
pub use Rattle.cell_rest.specs.cdrc_text as cdrc_text
pub use Rattle.cell_lanes.specs as cell_lanes
pub use Rattle.cell_rest.specs as cell_rest
pub use Rattle.tally_sums.specs as tally_sums
pub use Rattle.ticket_shares.specs as ticket_shares
-- Its own.
pub mod Shares
pub mod Ran
pub mod Gathering
