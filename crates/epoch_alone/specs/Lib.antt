-- What callers cite of the crates below.
pub use Rattle.epoch_refs.specs as epoch_refs
pub use Rattle.epoch_settling.specs as epoch_settling
pub use Rattle.law_lesson.specs as law_lesson
pub use Rattle.epoch_settling.specs.epoch_core as epoch_core
-- Its own.
pub mod Lone
pub mod Cells
pub mod Settled
