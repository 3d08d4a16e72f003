-- What callers cite of the crates below.
pub use Rattle.epoch_core.specs as epoch_core
-- Its own.
pub mod Claims
