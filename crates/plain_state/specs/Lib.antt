-- What callers cite of the crates below.
pub use Rattle.counter_word.specs as counter_word
-- Its own.
pub mod Lists
pub mod State
pub mod Limits
pub mod Fits
pub mod Places
pub mod References
pub mod Lawful
pub mod Steps
pub mod Sound
pub mod Runs
pub mod Images
pub mod Records
pub mod Ejection
