-- What callers cite of the crates below.
pub use Rattle.core_events.specs as core_events
pub use Rattle.core_events.specs.counter_word as counter_word
pub use Rattle.eject_scan.specs as eject_scan
pub use Rattle.core_events.specs.plain_state as plain_state
pub use Rattle.retire_batch.specs as retire_batch
-- Its own.
pub mod Fields
pub mod Phases
