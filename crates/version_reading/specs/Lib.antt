-- What callers cite of the crates below.
pub use Rattle.map_law.specs as map_law
pub use Rattle.map_trees.specs as map_trees
pub use Rattle.map_protocol.specs as map_protocol
pub use Rattle.protected_loads.specs as protected_loads
-- Its own.
pub mod Ways
pub mod Lessons
pub mod Deeds
pub mod Reading
pub mod Walks
