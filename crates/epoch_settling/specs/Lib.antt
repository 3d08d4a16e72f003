-- What callers cite of the crates below.
pub use Rattle.epoch_refs.specs as epoch_refs
pub use Rattle.epoch_core.specs as epoch_core
-- Its own.
pub mod Alone
pub mod Settling
