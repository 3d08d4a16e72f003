-- What callers cite of the crates below.
pub use Rattle.version_making.specs as version_making
pub use Rattle.version_reading.specs as version_reading
-- Its own.
pub mod Maps
pub mod Updating
pub mod Retrying
pub mod Playing
