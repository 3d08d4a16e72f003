-- What callers cite of the crates below.
pub use Rattle.slot_store.specs.acquire_retire as acquire_retire
pub use Rattle.slot_store.specs.control_word as control_word
pub use Rattle.slot_store.specs.core_events as core_events
pub use Rattle.snapshot_ptr.specs.plain_state as plain_state
pub use Rattle.slot_store.specs.retiring_stores as retiring_stores
pub use Rattle.slot_store.specs as slot_store
-- Its own.
pub mod Free
pub mod Placings
pub mod Trials
pub mod Turns
