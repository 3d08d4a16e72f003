-- What callers cite of the crates below.
pub use Rattle.seat_life.specs as seat_life
pub use Rattle.version_map.specs as version_map
pub use Rattle.map_rest.specs as map_rest
-- Its own.
pub mod Ending
