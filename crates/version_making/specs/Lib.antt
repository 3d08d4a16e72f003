-- What callers cite of the crates below.
pub use Rattle.map_protocol.specs as map_protocol
pub use Rattle.map_law.specs as map_law
pub use Rattle.map_law.specs.map_trees as map_trees
pub use Rattle.slot_store.specs as slot_store
pub use Rattle.atomic_shared.specs as atomic_shared
pub use Rattle.protected_loads.specs as protected_loads
-- Its own.
pub mod Keeping
pub mod Standing
pub mod Building
pub mod Deeds
pub mod Opening
pub mod Joining
pub mod Roots
