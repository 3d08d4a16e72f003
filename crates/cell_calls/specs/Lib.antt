-- What callers cite of the crates below.
pub use Rattle.cell_protocol.specs.cell_law as cell_law
pub use Rattle.cell_protocol.specs as cell_protocol
pub use Rattle.epoch_refs.specs as epoch_refs
-- Its own.
pub mod Cells
pub mod Keeping
