-- What callers cite of the crates below.
pub use Rattle.cell_making.specs.cell_calls as cell_calls
pub use Rattle.cell_finding.specs as cell_finding
pub use Rattle.cell_making.specs as cell_making
pub use Rattle.cell_making.specs.epoch_refs as epoch_refs
pub use Rattle.record_texts.specs as record_texts
-- Its own.
pub mod Refusals
pub mod Interning
pub mod Placing
