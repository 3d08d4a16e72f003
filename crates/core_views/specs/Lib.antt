-- What callers cite of the crates below.
pub use Rattle.core_functions.specs as core_functions
-- Its own.
pub mod Fits
pub mod Places
