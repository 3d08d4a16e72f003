-- What callers cite of the crates below.
pub use Rattle.plain_state.specs.counter_word as counter_word
pub use Rattle.plain_state.specs as plain_state
-- Its own.
pub mod Words
pub mod InUse
pub mod Seen
