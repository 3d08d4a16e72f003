-- What callers cite of the crates below.
pub use Rattle.core_events.specs.announce_slots as announce_slots
pub use Rattle.core_events.specs as core_events
pub use Rattle.core_events.specs.counter_word as counter_word
pub use Rattle.core_events.specs.plain_state as plain_state
-- Its own.
pub mod Slots
pub mod Sound
pub mod Shown
