-- What callers cite of the crates below.
pub use Rattle.cdrc_text.specs as cdrc_text
pub use Rattle.counted_handles.specs as counted_handles
pub use Rattle.plain_state.specs as plain_state
-- Its own.
pub mod FilePieces
pub mod Keeping
pub mod Sizes
pub mod Tallying
pub mod Work
