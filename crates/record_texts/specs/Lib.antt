-- What callers cite of the crates below.
pub use Rattle.directory_law.specs as directory_law
pub use Rattle.plain_state.specs as plain_state
-- Its own.
pub mod Texts
