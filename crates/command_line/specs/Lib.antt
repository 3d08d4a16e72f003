-- What callers cite of the crates below.
pub use Rattle.line_words.specs.cdrc_text as cdrc_text
pub use Rattle.plain_state.specs as plain_state
pub use Rattle.run_requests.specs as run_requests
-- Its own.
pub mod Parts
pub mod Found
pub mod Values
pub mod Requests
