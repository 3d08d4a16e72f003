-- What callers cite of the crates below.
pub use Rattle.map_law.specs as map_law
pub use Rattle.map_law.specs.map_trees as map_trees
pub use Rattle.map_law.specs.plain_protocol as plain_protocol
pub use Rattle.map_law.specs.plain_state as plain_state
