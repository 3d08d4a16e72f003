-- What callers cite of the crates below.
pub use Rattle.plain_protocol.specs as plain_protocol
pub use Rattle.plain_protocol.specs.plain_state as plain_state
pub use Rattle.map_trees.specs as map_trees
-- Its own.
pub mod Views
pub mod Nodes
pub mod Learnt
pub mod Orders
pub mod Law
pub mod Patterns
pub mod Making
pub mod Lessons
pub mod Publishing
pub mod Plans
pub mod Promises
pub mod Example
