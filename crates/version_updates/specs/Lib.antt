-- What callers cite of the crates below.
pub use Rattle.map_protocol.specs as map_protocol
pub use Rattle.map_law.specs as map_law
pub use Rattle.map_trees.specs as map_trees
pub use Rattle.slot_store.specs as slot_store
pub use Rattle.version_making.specs as version_making
-- Its own.
pub mod Heights
pub mod Roots
pub mod Changes
pub mod Steps
pub mod Longest
pub mod Publishing
pub mod Looking
pub mod Clearing
