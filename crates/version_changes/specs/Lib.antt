-- What callers cite of the crate below.
pub use Rattle.version_making.specs as version_making
pub use Rattle.map_trees.specs as map_trees
-- Its own.
pub mod Values
pub mod Showing
pub mod Keeping
pub mod Changing
