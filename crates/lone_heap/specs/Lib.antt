-- What callers cite of the crates below.
pub use Rattle.protected_loads.specs.acquire_retire as acquire_retire
pub use Rattle.protected_loads.specs.control_word as control_word
pub use Rattle.protected_loads.specs.core_events as core_events
pub use Rattle.slot_store.specs.protocol_pairs as protocol_pairs
-- Its own.
pub mod Lone
pub mod Words
pub mod Trails
