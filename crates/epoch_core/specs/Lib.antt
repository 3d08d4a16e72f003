-- What callers cite of the crates below.
pub use Rattle.core_law.specs.core_events as core_events
pub use Rattle.core_law.specs.plain_state as plain_state
-- Its own.
pub mod Words
pub mod Views
pub mod Steps
pub mod Runs
pub mod Counts
pub mod Good
pub mod Shows
pub mod ShownSteps
pub mod Destroyed
pub mod Slots
pub mod Sound
pub mod Alone
