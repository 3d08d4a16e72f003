-- What callers cite of the crates below.
pub use Rattle.core_functions.specs as core_functions
pub use Rattle.core_functions.specs.eject_scan as eject_scan
pub use Rattle.core_functions.specs.retire_batch as retire_batch
-- Its own.
pub mod Dying
