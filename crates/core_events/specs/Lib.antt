-- What callers cite of the crates below.
pub use Rattle.announce_slots.specs as announce_slots
pub use Rattle.announce_slots.specs.counter_word as counter_word
pub use Rattle.announce_slots.specs.plain_state as plain_state
-- Its own.
pub mod Words
pub mod Views
pub mod Steps
pub mod Runs
pub mod Counts
pub mod Good
pub mod Shows
pub mod ShownSteps
pub mod Counters
