-- What callers cite of the crates below.
pub use Rattle.core_functions.specs as core_functions
pub use Rattle.epoch_core.specs as epoch_core
pub use Rattle.plain_state.specs as plain_state
-- Its own.
pub mod Fields
pub mod Ended
pub mod Pending
